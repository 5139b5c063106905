use Rattle.std.proofs.Common.{◌≡◌, length}
use Rattle.hx_versions.specs.Uses.{use_with}
use Rattle.hx_versions.proofs.uses.use_with.Given as goal

-- the first among what is left is the first of all
abbrev pub invariant-loop-rest : goal.invariant-loop-rest
invariant-loop-rest l = use_with l.fn.by l.ci l.rest ≡ use_with l.fn.by l.ci l.uses

abbrev pub decreases-loop-rest : goal.decreases-loop-rest
decreases-loop-rest l = length l.rest
