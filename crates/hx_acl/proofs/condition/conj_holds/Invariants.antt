use Rattle.std.specs.Prelude.{◌≡◌, drop}
use Rattle.std.specs.List.{All, list_all}
use Rattle.hx_fetch.specs.World.{context_of}
use Rattle.hx_acl.specs.Holds.{HasAclHeads, term_holds}
use Rattle.hx_acl.proofs.condition.conj_holds.Given as goal

-- of the terms that are left: their heads, and they all hold exactly where all do
abbrev pub invariant-loop-term : goal.invariant-loop-term
invariant-loop-term g l =
    let heads = g.T.Tables.heads (g.T.Tables.state l.tables) in
    let holds = term_holds (context_of l.world) heads (g.T.Tables.lists (g.T.Tables.state l.tables)) l.acls in
    record {
      heads : All (λ term. HasAclHeads heads term.acl) (drop l.term-index l.conj);
      holds : list_all holds (drop l.term-index l.conj) ≡ list_all holds l.conj;
    }
