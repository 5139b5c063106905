use Rattle.std.specs.Prelude.{◌≡◌, drop}
use Rattle.hx_fetch.specs.World.{context_of}
use Rattle.hx_acl.specs.Holds.{HasCondHeads, cond_holds}
use Rattle.hx_acl.proofs.condition.Condition.holds.Given as goal

-- of the conjunctions that are left: their heads, and one holds exactly where one of all does
abbrev pub invariant-loop-conj : goal.invariant-loop-conj
invariant-loop-conj g l =
    let heads = g.T.Tables.heads (g.T.Tables.state l.tables) in
    let holds = cond_holds (context_of l.world) heads (g.T.Tables.lists (g.T.Tables.state l.tables)) l.acls in
    record {
      heads : HasCondHeads heads (drop l.conj-index l.self);
      holds : holds (drop l.conj-index l.self) ≡ holds l.self;
    }
