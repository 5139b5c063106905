use Rattle.std.specs.Prelude.{◌≡◌, drop}
use Rattle.hx_fetch.specs.World.{context_of}
use Rattle.hx_sample.specs.Seen.{occurrence_value}
use Rattle.hx_expr.specs.Values.{HasTableHeads, value_after}
use Rattle.hx_expr.proofs.evaluating.convert.Given as goal

-- the converters that are left make the value of what was made so far, and their heads are heads of
-- the tables
abbrev pub invariant-loop-conv : goal.invariant-loop-conv
invariant-loop-conv g l =
    let heads = g.T.Tables.heads (g.T.Tables.state l.tables) in
    let value = value_after (context_of l.world) heads (g.T.Tables.lists (g.T.Tables.state l.tables)) in
    record {
      heads : HasTableHeads heads (drop l.conv-index l.convs);
      value : value (drop l.conv-index l.convs) (occurrence_value l.value) ≡ value l.convs (occurrence_value l.fn.occurrence);
    }
