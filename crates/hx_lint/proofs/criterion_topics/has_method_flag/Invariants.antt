use Rattle.std.proofs.Common.{◌≡◌, length}
use Rattle.hx_lint.specs.CriterionTopics.{has_method_flag}
use Rattle.hx_lint.proofs.criterion_topics.has_method_flag.Given as goal

abbrev pub invariant-loop-rest : goal.invariant-loop-rest
invariant-loop-rest l = has_method_flag l.rest ≡ has_method_flag l.words

abbrev pub decreases-loop-rest : goal.decreases-loop-rest
decreases-loop-rest l = length l.rest
