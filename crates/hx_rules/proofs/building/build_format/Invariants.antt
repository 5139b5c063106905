use Rattle.std.specs.Prelude.{◌≡◌, true, drop, take}
use Rattle.std.specs.List.{list_all}
use Rattle.hx_acl.specs.Expressions.{has_expressions}
use Rattle.hx_expr.specs.Types.{is_typed}
use Rattle.hx_rules.specs.Building.{format_exprs}
use Rattle.hx_rules.proofs.building.build_format.Given as goal

-- what is built so far; the types of what is left fit, and it has its expressions exactly where the
-- whole has; and the maker's count and last text stay
abbrev pub invariant-loop-part : goal.invariant-loop-part
invariant-loop-part g l = record {
  built : l.built ≡ take l.part-index l.format;
  typed : list_all is_typed (format_exprs (drop l.part-index l.format)) ≡ true;
  expressions : list_all has_expressions (format_exprs (drop l.part-index l.format)) ≡ list_all has_expressions (format_exprs l.format);
  counted : (g.M.ReMaker.state l.maker).too_large ≡ (g.M.ReMaker.state l.fn.maker).too_large;
  large : (g.M.ReMaker.state l.maker).large ≡ (g.M.ReMaker.state l.fn.maker).large;
}
