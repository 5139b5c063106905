use Rattle.std.proofs.Common.{◌≡◌, ◌++◌, length, map}
use Rattle.hx_refs.specs.FileLines.{key_alone}
use Rattle.hx_filling.proofs.adding.keys.Given as goal

abbrev pub invariant-loop-rest : goal.invariant-loop-rest
invariant-loop-rest l = l.pairs ++ map key_alone l.rest ≡ map key_alone l.words

abbrev pub decreases-loop-rest : goal.decreases-loop-rest
decreases-loop-rest l = length l.rest
