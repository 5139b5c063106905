use Rattle.std.proofs.Common.{sym, ◌∙◌}
use Rattle.std.specs.Io.KnownBytes.{IsAtEnd}
use Rattle.hx_run.specs.declared.command.Detail.TheVariants.{Verdicts}
use Rattle.hx_run.proofs.ReplayFaultLemmas.{at_end_of, replay_kind, run_writes, sink_of, source_of, too_large_of}
use Rattle.hx_run.proofs.replay_run.replay_verdicts.Goals as goal

pub returns-clause-replays : goal.returns-clause-replays
returns-clause-replays g c =
    rw c.run_result.ensures (run_writes Verdicts (record { rules = c.args.rules; references = c.args.refs.content }) c.replay-replayed.new.answerer.engine.world
    (g.S.Source.left c.args.record_in.now) (g.K.Sink.written c.args.out.now) (g.K.Sink.written c.replay-replayed.new.out) c.replay-replayed.result
    (rw c.new-engine.ensures.world at c.replay-replayed.ensures.replays))

pub returns-clause-decided : goal.returns-clause-decided
returns-clause-decided g c = λ is.
    rw c.new-engine.ensures.world at (c.replay-replayed.ensures.decided (source_of c.replay-replayed.result (sym c.run_result.ensures ∙ is)))

pub returns-clause-before_reading : goal.returns-clause-before_reading
returns-clause-before_reading g c = rw c.new-engine.ensures.world at c.replay-replayed.ensures.before_reading

pub returns-clause-at_end : goal.returns-clause-at_end
returns-clause-at_end g c =
    rw c.run_result.ensures (at_end_of (IsAtEnd (g.S.Source.left c.replay-replayed.new.record_in)) c.replay-replayed.result c.replay-replayed.ensures.at_end)

pub returns-clause-kind : goal.returns-clause-kind
returns-clause-kind g c = rw c.run_result.ensures (replay_kind c.replay-replayed.result)

pub returns-clause-source : goal.returns-clause-source
returns-clause-source g c = λ is. c.replay-replayed.ensures.source (source_of c.replay-replayed.result (sym c.run_result.ensures ∙ is))

pub returns-clause-sink : goal.returns-clause-sink
returns-clause-sink g c = λ is. c.replay-replayed.ensures.sink (sink_of c.replay-replayed.result (sym c.run_result.ensures ∙ is))

pub returns-clause-too_large : goal.returns-clause-too_large
returns-clause-too_large g c = λ is.
    rw c.new-engine.ensures.world at (c.replay-replayed.ensures.too_large (too_large_of c.replay-replayed.result (sym c.run_result.ensures ∙ is)))
