use Rattle.std.specs.Prelude.{◌≡◌, ◌++◌, map}
use Rattle.hx_fetch.specs.World.{context_of}
use Rattle.hx_expr.specs.Values.{expr_values, value_after}
use Rattle.hx_expr.proofs.evaluating.eval_all.Given as goal

-- the values so far and those of the occurrences that are left are those of all
abbrev pub invariant-loop-occurrence : goal.invariant-loop-occurrence
invariant-loop-occurrence g l =
    let context = context_of l.world in
    let heads = g.T.Tables.heads (g.T.Tables.state l.tables) in
    let lists = g.T.Tables.lists (g.T.Tables.state l.tables) in
    l.values ++ map (value_after context heads lists l.plan.convs) l.occurrence-iterator ≡ expr_values context heads lists l.plan
