use Rattle.std.proofs.Common.{◌≡◌, length}
use Rattle.hx_lint.specs.ExprTopics.{texts_are_numbers}
use Rattle.hx_lint.proofs.expr_topics.texts_are_numbers.Given as goal

abbrev pub invariant-loop-rest : goal.invariant-loop-rest
invariant-loop-rest l = texts_are_numbers l.kind l.rest ≡ texts_are_numbers l.fn.before l.convs

abbrev pub decreases-loop-rest : goal.decreases-loop-rest
decreases-loop-rest l = length l.rest
