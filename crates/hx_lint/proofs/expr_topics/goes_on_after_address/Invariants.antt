use Rattle.std.proofs.Common.{◌≡◌, length}
use Rattle.hx_lint.specs.ExprTopics.{goes_on_after_address}
use Rattle.hx_lint.proofs.expr_topics.goes_on_after_address.Given as goal

abbrev pub invariant-loop-rest : goal.invariant-loop-rest
invariant-loop-rest l = goes_on_after_address l.rest ≡ goes_on_after_address l.convs

abbrev pub decreases-loop-rest : goal.decreases-loop-rest
decreases-loop-rest l = length l.rest
