use Rattle.std.proofs.Common.{◌≡◌, ◌≤◌, true}
use Rattle.std.specs.Io.KnownBytes.{IsAtEnd}
use Rattle.hx_record.specs.State.{remaining_work}
use Rattle.hx_replay.specs.Records.{record_limit}
use Rattle.hx_replay.proofs.ReplayLemmas.{Progress, AreSame}
use Rattle.hx_replay.proofs.record_replay.gather.Given as goal

abbrev pub invariant-events : goal.invariant-events
invariant-events g l = record {
  progress : Progress g.A.Answerer.AsksFor AreSame g.A.Answerer.behavior (g.A.Answerer.state l.fn.answerer) (g.A.Answerer.state l.answerer) l.reader (g.S.Source.left l.fn.record_in)
      (g.S.Source.left l.record_in) (g.S.Source.log l.fn.record_in) (g.S.Source.log l.record_in) (g.K.Sink.written l.fn.out) (g.K.Sink.written l.out) l.answers;
  within : l.reader.at ≤ record_limit;
  ended : l.reader.ended ≡ true → IsAtEnd (g.S.Source.left l.record_in);
  running : g.A.Answerer.IsRunning l.answerer;
  source : g.S.Source.faults l.fn.record_in ≤ g.S.Source.faults l.record_in;
  sink : g.K.Sink.faults l.fn.out ≤ g.K.Sink.faults l.out;
  too_large : (g.M.ReMaker.state l.maker).too_large ≡ (g.M.ReMaker.state l.fn.maker).too_large;
  large : (g.M.ReMaker.state l.maker).large ≡ (g.M.ReMaker.state l.fn.maker).large;
}

abbrev pub decreases-events : goal.decreases-events
decreases-events g l = remaining_work l.reader
