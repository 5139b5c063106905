use Rattle.std.proofs.Common.{length}
use Rattle.hx_filling.proofs.NumberLemmas.{HasGiven}
use Rattle.hx_filling.proofs.tables.given_numbers.Given as goal

abbrev pub invariant-loop-rest : goal.invariant-loop-rest
invariant-loop-rest l = HasGiven l.given l.rest l.specs

abbrev pub decreases-loop-rest : goal.decreases-loop-rest
decreases-loop-rest l = length l.rest
