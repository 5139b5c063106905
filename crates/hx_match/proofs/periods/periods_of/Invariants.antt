use Rattle.std.proofs.Common.{◌+◌, ◌-◌, length}
use Rattle.hx_match.specs.Needles.{AreFirstPeriods}
use Rattle.hx_match.proofs.periods.periods_of.Given as goal

abbrev pub invariant-loop-periods : goal.invariant-loop-periods
invariant-loop-periods l = AreFirstPeriods l.key l.periods.items l.last

abbrev pub decreases-loop-periods : goal.decreases-loop-periods
decreases-loop-periods l = length l.key + 1 - length l.periods.items
