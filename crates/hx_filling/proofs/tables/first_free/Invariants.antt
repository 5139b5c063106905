use Rattle.std.proofs.Common.{◌-◌, ◌^◌}
use Rattle.hx_filling.proofs.FreeNumberLemmas.{HasAllBetween}
use Rattle.hx_filling.proofs.tables.first_free.Given as goal

abbrev pub invariant-loop-free : goal.invariant-loop-free
invariant-loop-free l = HasAllBetween l.given l.from l.free

abbrev pub decreases-loop-free : goal.decreases-loop-free
decreases-loop-free l = 2 ^ 32 - l.free
