use Rattle.std.specs.Prelude.{◌≡◌, map}
use Rattle.std.specs.List.{list_any}
use Rattle.hx_expr.specs.Values.{value_after}
use Rattle.hx_fetch.specs.World.{context_of}
use Rattle.hx_acl.specs.Matching.{finds_entry, occurrence_matches, test_matches}
use Rattle.hx_acl.proofs.test.Test.some_matches.Given as goal

-- an occurrence that is left matches, after the converters, exactly where one of all does
abbrev pub invariant-loop-occurrence : goal.invariant-loop-occurrence
invariant-loop-occurrence g l =
    let context = context_of l.world in
    let heads = g.T.Tables.heads (g.T.Tables.state l.tables) in
    let lists = g.T.Tables.lists (g.T.Tables.state l.tables) in
    list_any (occurrence_matches l.self.by (finds_entry heads lists l.self.heads))
    (map (value_after context heads lists l.self.expr.convs) l.occurrence-iterator)
    ≡ test_matches context heads lists l.self
