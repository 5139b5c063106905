use Rattle.std.proofs.Common.{length}
use Rattle.hx_filling.proofs.NumberLemmas.{HasNumbered}
use Rattle.hx_filling.proofs.tables.numbers_beside.Given as goal

abbrev pub invariant-loop-rest : goal.invariant-loop-rest
invariant-loop-rest l = HasNumbered l.numbers.items l.free l.rest l.specs

abbrev pub decreases-loop-rest : goal.decreases-loop-rest
decreases-loop-rest l = length l.rest
