use Rattle.std.proofs.Common.{sym, ◌∙◌}
use Rattle.std.specs.Io.KnownBytes.{IsAtEnd}
use Rattle.hx_replay.specs.Configs.{program_of}
use Rattle.hx_trace_run.specs.EngineView.{check_state}
use Rattle.hx_trace_run.proofs.RecordLemmas.{asks_last, at_end_of, found, nothing_written, replay_kind, sink_of, source_of, too_large_of, unrefused}
use Rattle.hx_trace_run.proofs.record_check.check_record.Goals as goal

pub returns-clause-finds : goal.returns-clause-finds
returns-clause-finds g c =
    rw (c.found_result.ensures, c.finding.ensures) (found (program_of c.args.loaded) c.args.trace.items (check_state c.replay-replayed.new.answerer)
    (g.S.Source.left c.args.record_in.now) (g.K.Sink.written c.args.out.now) (g.K.Sink.written c.replay-replayed.new.out) c.replay-replayed.result
    (rw c.new-checking.ensures.state at c.replay-replayed.ensures.replays))

pub returns-clause-unwritten : goal.returns-clause-unwritten
returns-clause-unwritten g c =
    nothing_written (program_of c.args.loaded) c.args.trace.items (check_state c.replay-replayed.new.answerer)
    (g.S.Source.left c.args.record_in.now) (g.K.Sink.written c.args.out.now) (g.K.Sink.written c.replay-replayed.new.out) c.replay-replayed.result
    (rw c.new-checking.ensures.state at c.replay-replayed.ensures.replays)

pub returns-clause-taken : goal.returns-clause-taken
returns-clause-taken g c = λ is.
    unrefused (program_of c.args.loaded) c.args.trace.items (g.S.Source.left c.args.record_in.now) (g.S.Source.left c.replay-replayed.new.record_in)
    (g.K.Sink.written c.args.out.now) (g.K.Sink.written c.replay-replayed.new.out)
    (rw c.new-checking.ensures.state at (c.replay-replayed.ensures.decided (source_of c.finding.result c.replay-replayed.result (sym c.found_result.ensures ∙ is))))

pub returns-clause-at_end : goal.returns-clause-at_end
returns-clause-at_end g c =
    rw c.found_result.ensures (at_end_of (IsAtEnd (g.S.Source.left c.replay-replayed.new.record_in)) c.finding.result c.replay-replayed.result
    c.replay-replayed.ensures.at_end)

pub returns-clause-kind : goal.returns-clause-kind
returns-clause-kind g c = rw c.found_result.ensures (replay_kind c.finding.result c.replay-replayed.result)

pub returns-clause-source : goal.returns-clause-source
returns-clause-source g c = λ is.
    c.replay-replayed.ensures.source (source_of c.finding.result c.replay-replayed.result (sym c.found_result.ensures ∙ is))

pub returns-clause-sink : goal.returns-clause-sink
returns-clause-sink g c = λ is.
    c.replay-replayed.ensures.sink (sink_of c.finding.result c.replay-replayed.result (sym c.found_result.ensures ∙ is))

pub returns-clause-too_large : goal.returns-clause-too_large
returns-clause-too_large g c = λ is.
    let (rose, asks) = rw c.new-checking.ensures.state at
    (c.replay-replayed.ensures.too_large (too_large_of c.finding.result c.replay-replayed.result (sym c.found_result.ensures ∙ is))) in
    (rose, asks_last (program_of c.args.loaded) c.args.trace.items (g.S.Source.left c.args.record_in.now) (g.M.ReMaker.state c.replay-replayed.new.maker).large asks)
