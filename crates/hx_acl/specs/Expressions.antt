-- The texts that ACLs and conditions read as regular expressions: those of the `regsub` converters
-- of their expressions (HAProxy configuration manual 2.4, section 7.3.1).
use Rattle.std.specs.Prelude.{Bool, List, []}
use Rattle.std.specs.List.{flat_map, list_all}
use Rattle.hx_ast.specs.Acls.{cond_passes}
use Rattle.hx_ast.specs.declared.expr.Expr.{Expr}
use Rattle.hx_ast.specs.declared.statement.AclUse.{AclUse}
use Rattle.hx_ast.specs.declared.statement.AclUse.TheVariants.{Named, Own}
use Rattle.hx_ast.specs.declared.statement.Term.{Term}
use Rattle.hx_expr.specs.Expressions.{expression_texts, has_expression}
use Rattle.hx_outside.specs.Makers.{ExpressionText}

-- whether each text that the expression reads as a regular expression is one
abbrev pub has_expressions : Expr → Bool
has_expressions expr = list_all has_expression expr.convs

-- the same of all expressions that stand in a condition itself
abbrev pub cond_has_expressions : List (List Term) → Bool
cond_has_expressions cond = cond_passes (λ decl. has_expressions decl.expr) cond

-- the texts that the expression of an ACL reads as regular expressions, where the ACL stands in the
-- condition itself
abbrev pub use_texts : AclUse → List ExpressionText
use_texts (Named name) = []
use_texts (Own decl) = expression_texts decl.expr

abbrev pub conj_texts : List Term → List ExpressionText
conj_texts conj = flat_map (λ term. use_texts term.acl) conj

-- the texts that a condition reads as regular expressions
abbrev pub cond_texts : List (List Term) → List ExpressionText
cond_texts cond = flat_map conj_texts cond
