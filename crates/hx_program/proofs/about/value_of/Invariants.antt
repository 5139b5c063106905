use Rattle.std.proofs.Common.{◌≡◌, length}
use Rattle.hx_base.specs.Pairs.{pairs_of, value_at}
use Rattle.hx_program.proofs.about.value_of.Given as goal

abbrev pub invariant-loop-rest : goal.invariant-loop-rest
invariant-loop-rest l = value_at (pairs_of l.rest) l.name ≡ value_at (pairs_of l.fn.env) l.name

abbrev pub decreases-loop-rest : goal.decreases-loop-rest
decreases-loop-rest l = length l.rest
