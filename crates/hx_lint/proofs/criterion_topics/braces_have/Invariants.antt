use Rattle.std.proofs.Common.{◌≡◌, length}
use Rattle.hx_lint.specs.CriterionTopics.{braces_have}
use Rattle.hx_lint.proofs.criterion_topics.braces_have.Given as goal

abbrev pub invariant-loop-rest : goal.invariant-loop-rest
invariant-loop-rest l = braces_have l.topic l.rest ≡ braces_have l.topic l.words

abbrev pub decreases-loop-rest : goal.decreases-loop-rest
decreases-loop-rest l = length l.rest
