use Rattle.std.proofs.Common.{◌+◌, ◌-◌, length}
use Rattle.hx_match.specs.Needles.{MayBePeriod}
use Rattle.hx_match.proofs.periods.next_period.Given as goal

abbrev pub invariant-loop-period : goal.invariant-loop-period
invariant-loop-period l = MayBePeriod l.key (length l.periods - 1) l.period

abbrev pub decreases-loop-period : goal.decreases-loop-period
decreases-loop-period l = l.at + 1 - l.period
