use Rattle.std.specs.Prelude.{◌+◌}
use Rattle.std.specs.Option.{option_map_or}
use Rattle.hx_fetch.specs.World.{context_of}
use Rattle.hx_acl.specs.Matching.{test_matches}
use Rattle.hx_acl.proofs.AclSetLemmas.{AreLeft}
use Rattle.hx_acl.proofs.acl_set.AclSet.name_holds.Given as goal

-- the position is that of the last declaration of the name among those that are left to try
abbrev pub invariant-loop-left : goal.invariant-loop-left
invariant-loop-left g l =
    let heads = g.T.Tables.heads (g.T.Tables.state l.tables) in
    let lists = g.T.Tables.lists (g.T.Tables.state l.tables) in
    AreLeft (test_matches (context_of l.world) heads lists) l.self l.name l.left

abbrev pub decreases-loop-left : goal.decreases-loop-left
decreases-loop-left g l = option_map_or (λ position. position + 1) l.left 0
