use Rattle.std.specs.Prelude.{◌≡◌, drop}
use Rattle.hx_expr.specs.Types.{have_casts, is_typed}
use Rattle.hx_expr.proofs.typing.is_typed.Given as goal

-- what is left has casts exactly where the whole has
abbrev pub invariant-loop-conv : goal.invariant-loop-conv
invariant-loop-conv l = have_casts l.kind (drop l.conv-index l.expr.convs) ≡ is_typed l.expr
