-- Which ACLs and conditions have types that fit, as far as that is known when they are made
-- (HAProxy configuration manual 2.4, section 7.1).
use Rattle.std.specs.Prelude.{◌&&◌, Bool, List}
use Rattle.hx_ast.specs.declared.statement.Decl.{Decl}
use Rattle.hx_ast.specs.declared.statement.Term.{Term}
use Rattle.hx_ast.specs.Acls.{cond_passes}
use Rattle.hx_ast.specs.Types.{expr_kind}
use Rattle.hx_expr.specs.Types.{can_cast, is_typed}
use Rattle.hx_sample.specs.Keys.{kind_by}

-- whether there is a cast at each converter, and one of the value to the type that the match method
-- looks at
abbrev pub is_decl_typed : Decl → Bool
is_decl_typed decl = is_typed decl.expr && can_cast (expr_kind decl.expr) (kind_by decl.by)

-- the same of the ACLs that stand in a condition itself
abbrev pub is_cond_typed : List (List Term) → Bool
is_cond_typed cond = cond_passes is_decl_typed cond
