use Rattle.std.specs.Prelude.{◌+◌}
use Rattle.std.specs.Option.{option_map_or}
use Rattle.hx_fetch.specs.World.{context_of}
use Rattle.hx_acl.specs.Grounds.{test_ground}
use Rattle.hx_acl.proofs.GroundWalkLemmas.{GroundsLeft}
use Rattle.hx_acl.proofs.acl_set.AclSet.name_ground.Given as goal

-- The position is that of the last declaration of the name among those that are left to try, and
-- what was given is that of the first of the others.
abbrev pub invariant-loop-left : goal.invariant-loop-left
invariant-loop-left g l =
    let heads = g.T.Tables.heads (g.T.Tables.state l.tables) in
    let lists = g.T.Tables.lists (g.T.Tables.state l.tables) in
    GroundsLeft (test_ground (context_of l.world) heads lists) l.self l.name l.left l.given

abbrev pub decreases-loop-left : goal.decreases-loop-left
decreases-loop-left g l = option_map_or (λ position. position + 1) l.left 0
