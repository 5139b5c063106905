use Rattle.std.proofs.Common.{◌≤◌}
use Rattle.hx_record.specs.State.{remaining_work}
use Rattle.hx_record.proofs.DecisionLemmas.{PassesLines}
use Rattle.hx_record.proofs.reader.Reader.next_of_any.Given as goal

abbrev pub invariant-lines : goal.invariant-lines
invariant-lines l = record {
  passes : PassesLines l.fn.self l.self;
  work : remaining_work l.self ≤ remaining_work l.fn.self;
  later : l.fn.self.at ≤ l.self.at;
}

abbrev pub decreases-lines : goal.decreases-lines
decreases-lines l = remaining_work l.self
