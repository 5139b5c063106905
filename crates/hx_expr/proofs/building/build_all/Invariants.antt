use Rattle.std.specs.Prelude.{◌≡◌, drop, take}
use Rattle.std.specs.List.{list_all}
use Rattle.hx_expr.specs.Expressions.{has_expression}
use Rattle.hx_expr.proofs.building.build_all.Given as goal

-- what is built so far; what is left has its expressions exactly where the whole has; and the
-- maker's count and last text stay
abbrev pub invariant-loop-conv : goal.invariant-loop-conv
invariant-loop-conv g l = record {
  built : l.built ≡ take l.conv-index l.convs;
  read : list_all has_expression (drop l.conv-index l.convs) ≡ list_all has_expression l.convs;
  counted : (g.M.ReMaker.state l.maker).too_large ≡ (g.M.ReMaker.state l.fn.maker).too_large;
  large : (g.M.ReMaker.state l.maker).large ≡ (g.M.ReMaker.state l.fn.maker).large;
}
