use Rattle.std.proofs.Common.{◌≡◌, length}
use Rattle.hx_lint.specs.CriterionTopics.{is_opening}
use Rattle.hx_lint.proofs.criterion_topics.is_opening.Given as goal

abbrev pub invariant-loop-rest : goal.invariant-loop-rest
invariant-loop-rest l = is_opening l.rest ≡ is_opening l.word

abbrev pub decreases-loop-rest : goal.decreases-loop-rest
decreases-loop-rest l = length l.rest
