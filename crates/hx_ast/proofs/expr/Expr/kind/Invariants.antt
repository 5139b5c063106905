use Rattle.std.proofs.Common.{◌≡◌, length}
use Rattle.hx_ast.specs.Types.{expr_kind, kind_after}
use Rattle.hx_ast.proofs.expr.Expr.kind.Given as goal

abbrev pub invariant-loop-convs : goal.invariant-loop-convs
invariant-loop-convs l = kind_after l.kind l.convs ≡ expr_kind l.self

abbrev pub decreases-loop-convs : goal.decreases-loop-convs
decreases-loop-convs l = length l.convs
