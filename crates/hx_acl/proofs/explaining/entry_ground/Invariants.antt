use Rattle.std.specs.Prelude.{◌≡◌, drop}
use Rattle.std.specs.List.{All}
use Rattle.hx_sample.specs.Seen.{value_of}
use Rattle.hx_acl.specs.Grounds.{entry_ground}
use Rattle.hx_acl.specs.Tests.{TakesHead}
use Rattle.hx_acl.proofs.explaining.entry_ground.Given as goal

-- the heads that are left take the value, and give what all do
abbrev pub invariant-loop-head : goal.invariant-loop-head
invariant-loop-head g l =
    let heads = g.T.Tables.heads (g.T.Tables.state l.tables) in
    let given = entry_ground heads (g.T.Tables.lists (g.T.Tables.state l.tables)) in
    record {
      heads : All (TakesHead heads (value_of l.sample)) (drop l.head-index l.heads);
      given : given (drop l.head-index l.heads) (value_of l.sample) ≡ given l.heads (value_of l.sample);
    }
