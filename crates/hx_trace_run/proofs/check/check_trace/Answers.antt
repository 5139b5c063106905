use Rattle.std.proofs.Common.{[], inl, inr}
use Rattle.std.specs.Io.KnownBytes.{IsAtEnd}
use Rattle.hx_trace_run.specs.Checking.{check_setting}
use Rattle.hx_trace_run.proofs.CheckLemmas.{finished_files, told_ends}
use Rattle.hx_trace_run.proofs.CheckStatusLemmas.{after_nothing, checks, compares, complete, completed, config_refused, finished_status, of_fault, outside, sink_rose, too_large, without_fault}
use Rattle.hx_trace_run.proofs.check.check_trace.Goals as goal

pub returns-clause-status : goal.returns-clause-status
returns-clause-status g c =
    finished_status c.find-found.result (g.K.Sink.written c.find-found.new.out) (g.K.Sink.written c.finish-status.new.out) c.finish-status.result c.finish-status.ensures.finished

pub returns-clause-headline : goal.returns-clause-headline
returns-clause-headline g c = λ done.
    compares (check_setting c.args.env.now (g.F.Files.held c.args.files.now) c.args.config_name.now c.args.trace_name.now (g.S.Source.left c.args.record_in.now))
    (g.K.Sink.written c.args.out.now) (g.K.Sink.written c.find-found.new.out) (g.K.Sink.written c.finish-status.new.out) c.find-found.result c.finish-status.result
    c.find-found.ensures.finds c.find-found.ensures.unwritten c.finish-status.ensures.finished done

pub returns-clause-checks : goal.returns-clause-checks
returns-clause-checks g c =
    checks (check_setting c.args.env.now (g.F.Files.held c.args.files.now) c.args.config_name.now c.args.trace_name.now (g.S.Source.left c.args.record_in.now))
    (g.K.Sink.written c.args.out.now) (g.K.Sink.written c.find-found.new.out) (g.K.Sink.written c.finish-status.new.out) c.find-found.result c.finish-status.result
    c.find-found.ensures.finds c.find-found.ensures.unwritten c.finish-status.ensures.finished

pub returns-clause-outside : goal.returns-clause-outside
returns-clause-outside g c = λ five.
    let (failed, line) = outside c.find-found.result (g.K.Sink.written c.find-found.new.out) (g.K.Sink.written c.finish-status.new.out) c.finish-status.result
    c.finish-status.ensures.finished five in
    let none = after_nothing (g.K.Sink.written c.args.out.now) (g.K.Sink.written c.find-found.new.out) (g.K.Sink.written c.finish-status.new.out) []
    c.find-found.ensures.unwritten line in
    elim failed [
      | inl files ↦ let (rose, last) = c.find-found.ensures.files_failed files in inl (rose, last, none)
      | inr source ↦ let (rose, fails) = c.find-found.ensures.source_failed source in inr (rose, fails, none)
    ]

pub returns-clause-sink : goal.returns-clause-sink
returns-clause-sink g c = λ six.
    sink_rose c.find-found.result (g.K.Sink.faults c.args.out.now) (g.K.Sink.faults c.find-found.new.out) (g.K.Sink.faults c.finish-status.new.out)
    c.find-found.ensures.sink_failed (c.finish-status.ensures.sink six) c.find-found.ensures.later c.finish-status.ensures.later

pub returns-clause-too_large : goal.returns-clause-too_large
returns-clause-too_large g c = λ eight.
    let (is, line) = too_large c.find-found.result (g.K.Sink.written c.find-found.new.out) (g.K.Sink.written c.finish-status.new.out) c.finish-status.result
    c.finish-status.ensures.finished eight in
    let (rose, last) = c.find-found.ensures.too_large is in (
      rose,
      last,
      after_nothing (g.K.Sink.written c.args.out.now) (g.K.Sink.written c.find-found.new.out) (g.K.Sink.written c.finish-status.new.out) []
          c.find-found.ensures.unwritten line,
    )

pub returns-clause-complete : goal.returns-clause-complete
returns-clause-complete g c = λ files source sink large.
    complete (check_setting c.args.env.now (g.F.Files.held c.args.files.now) c.args.config_name.now c.args.trace_name.now (g.S.Source.left c.args.record_in.now))
    (g.K.Sink.written c.args.out.now) (g.K.Sink.written c.finish-status.new.out) c.finish-status.result (returns-clause-status g c)
    (λ five. elim (returns-clause-outside g c five) [ inl failed ↦ files failed.0 | inr failed ↦ source failed.0 ])
    (λ six. sink (returns-clause-sink g c six))
    (λ eight. large (returns-clause-too_large g c eight).0)
    (returns-clause-checks g c)

pub returns-clause-no_fault : goal.returns-clause-no_fault
returns-clause-no_fault g c = λ none.
    without_fault c.find-found.result (g.K.Sink.written c.find-found.new.out) (g.K.Sink.written c.finish-status.new.out) c.finish-status.result
    (c.fault_of.ensures.none none) c.finish-status.ensures.finished

pub returns-clause-at_end : goal.returns-clause-at_end
returns-clause-at_end g c = λ done.
    completed (IsAtEnd (g.S.Source.left c.find-found.new.record_in)) (g.K.Sink.written c.find-found.new.out) (g.K.Sink.written c.finish-status.new.out)
    c.find-found.result c.finish-status.result c.finish-status.ensures.finished done c.find-found.ensures.at_end

pub returns-clause-config_refused : goal.returns-clause-config_refused
returns-clause-config_refused g c = λ three.
    let (line, code, is) = config_refused c.find-found.result (g.K.Sink.written c.find-found.new.out) (g.K.Sink.written c.finish-status.new.out) c.finish-status.result
    c.finish-status.ensures.finished three in
    c.find-found.ensures.config_refused line code is

pub returns-clause-fault_status : goal.returns-clause-fault_status
returns-clause-fault_status g c =
    of_fault c.find-found.result c.fault_of.result (g.K.Sink.written c.find-found.new.out) (g.K.Sink.written c.finish-status.new.out) c.finish-status.result
    c.fault_of.ensures.fault c.finish-status.ensures.finished

pub returns-clause-told : goal.returns-clause-told
returns-clause-told g c =
    told_ends (check_setting c.args.env.now (g.F.Files.held c.args.files.now) c.args.config_name.now c.args.trace_name.now (g.S.Source.left c.args.record_in.now))
    c.find-found.result c.fault_of.result c.fault_of.ensures.fault c.find-found.ensures.finds

pub returns-clause-file_fault : goal.returns-clause-file_fault
returns-clause-file_fault g c = λ is. (c.find-found.ensures.files_failed (rw is at c.fault_of.ensures.fault)).0

pub returns-clause-record_fault : goal.returns-clause-record_fault
returns-clause-record_fault g c = λ is. (c.find-found.ensures.source_failed (rw is at c.fault_of.ensures.fault)).0

pub returns-clause-files_read : goal.returns-clause-files_read
returns-clause-files_read g c =
    finished_files (check_setting c.args.env.now (g.F.Files.held c.args.files.now) c.args.config_name.now c.args.trace_name.now (g.S.Source.left c.args.record_in.now))
    (g.F.Files.last c.find-found.new.files) c.find-found.result (g.K.Sink.written c.find-found.new.out) (g.K.Sink.written c.finish-status.new.out)
    c.finish-status.result (g.F.Files.log c.args.files.now) (g.F.Files.log c.find-found.new.files) c.finish-status.ensures.finished c.find-found.ensures.files_read
