use Rattle.std.proofs.Common.{◌≡◌, length}
use Rattle.std.specs.Prelude.{slice_get}
use Rattle.hx_versions.specs.Uses.{uses_by, uses_in_order}
use Rattle.hx_versions.proofs.uses.use_in_order.Given as goal

-- the place that is left among the ways that are left is the place among all
abbrev pub invariant-loop-rest : goal.invariant-loop-rest
invariant-loop-rest l =
    slice_get (uses_by l.rest l.uses) l.left ≡ slice_get (uses_in_order l.uses) l.fn.place

abbrev pub decreases-loop-rest : goal.decreases-loop-rest
decreases-loop-rest l = length l.rest
