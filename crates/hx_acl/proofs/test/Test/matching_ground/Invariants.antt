use Rattle.std.specs.Prelude.{◌≡◌, map}
use Rattle.hx_expr.specs.Values.{value_after}
use Rattle.hx_fetch.specs.World.{context_of}
use Rattle.hx_acl.specs.Grounds.{entry_ground, first_given, occurrence_ground, test_ground}
use Rattle.hx_acl.proofs.test.Test.matching_ground.Given as goal

-- what the occurrences that are left give, after the converters, is what all do
abbrev pub invariant-loop-occurrence : goal.invariant-loop-occurrence
invariant-loop-occurrence g l =
    let context = context_of l.world in
    let heads = g.T.Tables.heads (g.T.Tables.state l.tables) in
    let lists = g.T.Tables.lists (g.T.Tables.state l.tables) in
    first_given (occurrence_ground l.self.by (entry_ground heads lists l.self.heads))
    (map (value_after context heads lists l.self.expr.convs) l.occurrence-iterator)
    ≡ test_ground context heads lists l.self
