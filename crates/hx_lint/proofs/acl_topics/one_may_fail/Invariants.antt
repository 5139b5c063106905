use Rattle.std.proofs.Common.{◌≡◌, length}
use Rattle.hx_lint.specs.AclTopics.{one_may_fail}
use Rattle.hx_lint.proofs.acl_topics.one_may_fail.Given as goal

abbrev pub invariant-loop-rest : goal.invariant-loop-rest
invariant-loop-rest l = one_may_fail l.kind l.rest ≡ one_may_fail l.fn.before l.convs

abbrev pub decreases-loop-rest : goal.decreases-loop-rest
decreases-loop-rest l = length l.rest
