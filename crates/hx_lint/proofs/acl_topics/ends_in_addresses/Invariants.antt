use Rattle.std.proofs.Common.{◌≡◌, length}
use Rattle.hx_lint.specs.AclTopics.{ends_in_addresses}
use Rattle.hx_lint.proofs.acl_topics.ends_in_addresses.Given as goal

abbrev pub invariant-loop-rest : goal.invariant-loop-rest
invariant-loop-rest l = ends_in_addresses l.rest ≡ ends_in_addresses l.convs

abbrev pub decreases-loop-rest : goal.decreases-loop-rest
decreases-loop-rest l = length l.rest
