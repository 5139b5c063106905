use Rattle.std.proofs.Common.{◌≡◌, length}
use Rattle.hx_lint.specs.Topics.{ends_in_map}
use Rattle.hx_lint.proofs.topics.ends_in_map.Given as goal

abbrev pub invariant-loop-rest : goal.invariant-loop-rest
invariant-loop-rest l = ends_in_map l.rest ≡ ends_in_map l.convs

abbrev pub decreases-loop-rest : goal.decreases-loop-rest
decreases-loop-rest l = length l.rest
