use Rattle.std.specs.Prelude.{◌≡◌, ◌++◌, drop, option_map}
use Rattle.std.specs.List.{All}
use Rattle.hx_fetch.specs.World.{context_of}
use Rattle.hx_acl.specs.Grounds.{conj_grounds}
use Rattle.hx_acl.specs.Holds.{HasAclHeads}
use Rattle.hx_acl.proofs.explaining.conj_grounds.Given as goal

-- of the terms that are left: their heads, and what they hold by comes after what was gathered
abbrev pub invariant-loop-term : goal.invariant-loop-term
invariant-loop-term g l =
    let heads = g.T.Tables.heads (g.T.Tables.state l.tables) in
    let given = conj_grounds (context_of l.world) heads (g.T.Tables.lists (g.T.Tables.state l.tables)) l.acls in
    record {
      heads : All (λ term. HasAclHeads heads term.acl) (drop l.term-index l.conj);
      given : option_map (λ rest. l.grounds ++ rest) (given (drop l.term-index l.conj)) ≡ given l.conj;
    }
