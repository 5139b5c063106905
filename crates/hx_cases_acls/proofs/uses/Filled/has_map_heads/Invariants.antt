use Rattle.std.specs.Prelude.{drop}
use Rattle.hx_expr.specs.Values.{HasTableHeads}
use Rattle.hx_cases_acls.proofs.uses.Filled.has_map_heads.Given as goal

-- where the heads of those that are left are there, all are
abbrev pub invariant-loop-conv : goal.invariant-loop-conv
invariant-loop-conv l =
    HasTableHeads l.self.refs.content.heads (drop l.conv-index l.convs) → HasTableHeads l.self.refs.content.heads l.convs
