use Rattle.std.proofs.Common.{◌<◌, ◌∙◌, Err, inl, inr, ap, arith, refl}
use Rattle.hx_run.specs.Command.{asked_of}
use Rattle.hx_run.specs.Run.{setting}
use Rattle.hx_run.specs.declared.command.Detail.TheVariants.{Verdicts}
use Rattle.hx_run.proofs.RunLemmas.{before_finished, source_moved}
use Rattle.hx_run.proofs.EndLemmas.{ends_as, of_fault}
use Rattle.hx_run.proofs.StatusLemmas.{headline, checked, ran_completed, finished_status, ran_finished, finished_by, finished_line, is_config_refused, is_outside, is_large, large_line, sink_rose, complete}
use Rattle.hx_run.proofs.UnseenLemmas.{shows_no_uncommitted_version}
use Rattle.hx_run.proofs.FilesLemmas.{finished_files}
use Rattle.hx_run.proofs.run_command.run_command.Goals as goal

pub returns-in-Ok-clause-headline : goal.returns-in-Ok-clause-headline
returns-in-Ok-clause-headline g c = λ done detail asked. headline detail _ _ _ asked c.in-Ok.ensures.attempted

pub returns-in-Ok-clause-unseen : goal.returns-in-Ok-clause-unseen
returns-in-Ok-clause-unseen g c =
    λ done asked. shows_no_uncommitted_version _ _ _ (headline Verdicts _ _ _ asked c.in-Ok.ensures.attempted)

pub returns-in-Ok-clause-checked : goal.returns-in-Ok-clause-checked
returns-in-Ok-clause-checked g c = λ done asked. checked _ _ _ asked c.in-Ok.ensures.attempted

pub returns-in-Ok-clause-ran : goal.returns-in-Ok-clause-ran
returns-in-Ok-clause-ran g c = ran_completed _ _ _ c.in-Ok.ensures.attempted

pub returns-in-Ok-clause-at_end : goal.returns-in-Ok-clause-at_end
returns-in-Ok-clause-at_end g c = λ done. c.in-Ok.ensures.at_end

pub returns-in-Ok-clause-unread : goal.returns-in-Ok-clause-unread
returns-in-Ok-clause-unread g c = c.in-Ok.ensures.unread

pub returns-in-Ok-clause-complete : goal.returns-in-Ok-clause-complete
returns-in-Ok-clause-complete g c = λ files source sink large.
    complete _ _ _ 0 (0, omega arith, refl)
    (λ five. absurd (omega (arith, five))) (λ six. absurd (omega (arith, six)))
    (λ eight. absurd (omega (arith, eight)))
    (ran_completed _ _ _ c.in-Ok.ensures.attempted)

pub returns-in-Ok-clause-named : goal.returns-in-Ok-clause-named
returns-in-Ok-clause-named g c = c.in-Ok.ensures.named

pub returns-in-Err-clause-status : goal.returns-in-Err-clause-status
returns-in-Err-clause-status g c =
    finished_status c.in-Err.fault (g.K.Sink.written c.attempt.new.out) (g.K.Sink.written c.finish.new.out) c.finish.result c.finish.ensures.finished

pub returns-in-Err-clause-ran : goal.returns-in-Err-clause-ran
returns-in-Err-clause-ran g c = ran_finished _ (g.K.Sink.written c.args.out.now) (g.K.Sink.written c.attempt.new.out) (g.K.Sink.written c.finish.new.out) c.in-Err.fault c.finish.result
    c.in-Err.ensures.attempted c.finish.ensures.finished

pub returns-in-Err-clause-config_refused : goal.returns-in-Err-clause-config_refused
returns-in-Err-clause-config_refused g c = λ three.
    let small : c.finish.result < 6 = omega (arith, three) in
    let (line, code, is) = is_config_refused c.in-Err.fault
    (finished_by c.in-Err.fault (g.K.Sink.written c.attempt.new.out) (g.K.Sink.written c.finish.new.out) c.finish.result c.finish.ensures.finished small ∙ three) in
    c.in-Err.ensures.config_refused line code (ap Err is)

pub returns-in-Err-clause-unread : goal.returns-in-Err-clause-unread
returns-in-Err-clause-unread g c = c.in-Err.ensures.unread

pub returns-in-Err-clause-outside : goal.returns-in-Err-clause-outside
returns-in-Err-clause-outside g c = λ five.
    let small : c.finish.result < 6 = omega (arith, five) in
    let fault = finished_by c.in-Err.fault (g.K.Sink.written c.attempt.new.out) (g.K.Sink.written c.finish.new.out) c.finish.result c.finish.ensures.finished small ∙ five in
    let line = finished_line c.in-Err.fault (g.K.Sink.written c.attempt.new.out) (g.K.Sink.written c.finish.new.out) c.finish.result c.finish.ensures.finished small in
    elim (is_outside c.in-Err.fault fault) [
      | inl files ↦
          let (rose, last, stays) = c.in-Err.ensures.files_failed (ap Err files) in
          inl (rose, last, rw stays at (rw files at line))
      | inr source ↦
          let (rose, fails) = c.in-Err.ensures.source_failed (ap Err source) in
          inr (
            rose,
            source_moved _ (g.S.Source.left c.attempt.new.record_in) (g.K.Sink.written c.args.out.now) (g.K.Sink.written c.attempt.new.out) (g.K.Sink.written c.finish.new.out) fails (rw source at line),
          )
    ]

pub returns-in-Err-clause-sink : goal.returns-in-Err-clause-sink
returns-in-Err-clause-sink g c = λ six.
    sink_rose c.in-Err.fault c.finish.result (g.K.Sink.faults c.args.out.now) (g.K.Sink.faults c.attempt.new.out) (g.K.Sink.faults c.finish.new.out) six
    (λ is. c.in-Err.ensures.sink_failed (ap Err is)) c.finish.ensures.sink c.in-Err.ensures.later c.finish.ensures.later

pub returns-in-Err-clause-too_large : goal.returns-in-Err-clause-too_large
returns-in-Err-clause-too_large g c = λ eight.
    let fault = is_large c.in-Err.fault (g.K.Sink.written c.attempt.new.out) (g.K.Sink.written c.finish.new.out) c.finish.result c.finish.ensures.finished eight in
    let (rose, last) = c.in-Err.ensures.too_large (ap Err fault) in (
      rose,
      elim last [
        | inl judged ↦ inl (
          judged.0,
          rw judged.1 at (large_line c.in-Err.fault (g.K.Sink.written c.attempt.new.out) (g.K.Sink.written c.finish.new.out) c.finish.result c.finish.ensures.finished eight),
        )
        | inr asks ↦ inr asks
      ],
    )

pub returns-in-Err-clause-complete : goal.returns-in-Err-clause-complete
returns-in-Err-clause-complete g c = λ files source sink large.
    complete _ (g.K.Sink.written c.args.out.now) (g.K.Sink.written c.finish.new.out) c.finish.result (returns-in-Err-clause-status g c)
    (λ five. elim (returns-in-Err-clause-outside g c five) [ inl failed ↦ files failed.0 | inr failed ↦ source failed.0 ])
    (λ six. sink (returns-in-Err-clause-sink g c six))
    (λ eight. large (c.in-Err.ensures.too_large (ap Err
    (is_large c.in-Err.fault (g.K.Sink.written c.attempt.new.out) (g.K.Sink.written c.finish.new.out) c.finish.result c.finish.ensures.finished eight))).0)
    (returns-in-Err-clause-ran g c)

pub returns-in-Err-clause-named : goal.returns-in-Err-clause-named
returns-in-Err-clause-named g c = c.in-Err.ensures.named

pub returns-in-Ok-clause-before_reading : goal.returns-in-Ok-clause-before_reading
returns-in-Ok-clause-before_reading g c = c.in-Ok.ensures.before_reading

pub returns-in-Err-clause-before_reading : goal.returns-in-Err-clause-before_reading
returns-in-Err-clause-before_reading g c = before_finished _ (g.S.Source.log c.args.record_in.now) (g.S.Source.log c.attempt.new.record_in) (g.K.Sink.written c.args.out.now)
    (g.K.Sink.written c.attempt.new.out) (g.K.Sink.written c.finish.new.out) c.in-Err.fault c.finish.result c.in-Err.ensures.before_reading
    c.finish.ensures.finished

pub returns-in-Ok-clause-files_read : goal.returns-in-Ok-clause-files_read
returns-in-Ok-clause-files_read g c = c.in-Ok.ensures.files_read

pub returns-in-Err-clause-files_read : goal.returns-in-Err-clause-files_read
returns-in-Err-clause-files_read g c =
    finished_files (setting c.args.env.now (g.F.Files.held c.args.files.now) (asked_of c.args.command) (g.S.Source.left c.args.record_in.now)) (g.F.Files.last c.attempt.new.files) c.in-Err.fault (g.K.Sink.written c.attempt.new.out) (g.K.Sink.written c.finish.new.out) c.finish.result
    (g.F.Files.log c.args.files.now) (g.F.Files.log c.attempt.new.files) c.finish.ensures.finished c.in-Err.ensures.files_read

pub returns-in-Err-clause-told : goal.returns-in-Err-clause-told
returns-in-Err-clause-told g c = ends_as _ (g.K.Sink.written c.args.out.now) (g.K.Sink.written c.attempt.new.out) c.in-Err.fault c.in-Err.ensures.attempted

pub returns-in-Err-clause-fault_status : goal.returns-in-Err-clause-fault_status
returns-in-Err-clause-fault_status g c =
    of_fault c.in-Err.fault (g.K.Sink.written c.attempt.new.out) (g.K.Sink.written c.finish.new.out) c.finish.result c.finish.ensures.finished

pub returns-in-Err-clause-file_fault : goal.returns-in-Err-clause-file_fault
returns-in-Err-clause-file_fault g c = λ is. (c.in-Err.ensures.files_failed (cc is)).0

pub returns-in-Err-clause-record_fault : goal.returns-in-Err-clause-record_fault
returns-in-Err-clause-record_fault g c = λ is. (c.in-Err.ensures.source_failed (cc is)).0
