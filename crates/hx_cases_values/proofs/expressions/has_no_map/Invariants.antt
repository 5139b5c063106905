use Rattle.std.specs.Prelude.{drop}
use Rattle.hx_sample.specs.Tables.{empty_heads}
use Rattle.hx_expr.specs.Values.{HasTableHeads}
use Rattle.hx_cases_values.proofs.expressions.has_no_map.Given as goal

-- where what is left looks nothing up, the whole doesn't
abbrev pub invariant-loop-conv : goal.invariant-loop-conv
invariant-loop-conv l = HasTableHeads empty_heads (drop l.conv-index l.convs) → HasTableHeads empty_heads l.convs
