use Rattle.std.specs.Prelude.{◌≡◌, drop}
use Rattle.std.specs.List.{list_all}
use Rattle.hx_expr.specs.Types.{is_typed}
use Rattle.hx_rules.specs.Building.{format_exprs}
use Rattle.hx_rules.proofs.typing.is_format_typed.Given as goal

-- what is left has casts exactly where the whole has
abbrev pub invariant-loop-part : goal.invariant-loop-part
invariant-loop-part l = list_all is_typed (format_exprs (drop l.part-index l.format)) ≡ list_all is_typed (format_exprs l.format)
