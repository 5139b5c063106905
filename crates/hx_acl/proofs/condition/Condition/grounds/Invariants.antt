use Rattle.std.specs.Prelude.{◌≡◌, drop, suc}
use Rattle.hx_fetch.specs.World.{context_of}
use Rattle.hx_acl.specs.Grounds.{held_from}
use Rattle.hx_acl.specs.Holds.{HasCondHeads}
use Rattle.hx_acl.proofs.condition.Condition.grounds.Given as goal

-- Of the conjunctions that are left: their heads, and the first of them that holds, counted after
-- those before them, is that of all.
abbrev pub invariant-loop-conj : goal.invariant-loop-conj
invariant-loop-conj g l =
    let heads = g.T.Tables.heads (g.T.Tables.state l.tables) in
    let lists = g.T.Tables.lists (g.T.Tables.state l.tables) in
    let from = held_from (context_of l.world) heads lists l.acls in
    record {
      heads : HasCondHeads heads (drop l.conj-index l.self);
      before : l.before ≡ l.conj-index;
      held : from (suc l.before) (drop l.conj-index l.self) ≡ from 1 l.self;
    }
