use Rattle.std.specs.Prelude.{◌≡◌, drop}
use Rattle.std.specs.List.{All}
use Rattle.hx_sample.specs.Seen.{value_of}
use Rattle.hx_acl.specs.Matching.{finds_entry}
use Rattle.hx_acl.specs.Tests.{TakesHead}
use Rattle.hx_acl.proofs.matching.finds_entry.Given as goal

-- the heads that are left take the value, and find an entry exactly where all do
abbrev pub invariant-loop-head : goal.invariant-loop-head
invariant-loop-head g l =
    let heads = g.T.Tables.heads (g.T.Tables.state l.tables) in
    let finds = finds_entry heads (g.T.Tables.lists (g.T.Tables.state l.tables)) in
    record {
      heads : All (TakesHead heads (value_of l.sample)) (drop l.head-index l.heads);
      found : finds (drop l.head-index l.heads) (value_of l.sample) ≡ finds l.heads (value_of l.sample);
    }
