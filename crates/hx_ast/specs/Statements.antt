-- Which parts statements may have.
use Rattle.std.specs.Prelude.{◌≡◌, ℕ, ◌<◌, Bool, true, false, List, length, IfSome, ⊤}
use Rattle.std.specs.List.{AllPass, list_any}
use Rattle.hx_ast.specs.declared.action.Action.{Action}
use Rattle.hx_ast.specs.declared.action.Action.TheVariants as action
use Rattle.hx_ast.specs.declared.conv.Conv.{Conv}
use Rattle.hx_ast.specs.declared.conv.Conv.TheVariants as conv
use Rattle.hx_ast.specs.declared.expr.Expr.{Expr}
use Rattle.hx_ast.specs.declared.statement.Rule.{Rule}
use Rattle.hx_ast.specs.declared.statement.Statement.{Statement}
use Rattle.hx_ast.specs.declared.statement.Statement.TheVariants as statement
use Rattle.hx_ast.specs.Acls.{IsAclName, IsCond, IsDecl, is_name_byte}
use Rattle.hx_ast.specs.Actions.{IsAction, IsFormat}

pub record IsRule (rule : Rule) : Type 0 where
  pub action : IsAction rule.action
  pub cond : IfSome rule.cond IsCond

-- the action is a redirect
abbrev pub is_redirect : Action → Bool
is_redirect (action.Redirect kind format status drop_query) = true
is_redirect _ = false

-- the name of a frontend or a backend
pub record IsProxyName (name : List ℕ) : Type 0 where
  pub some : 0 < length name
  pub bytes : AllPass is_name_byte name

-- each part of the statement is such as the syntax allows
abbrev pub IsStatement : Statement → Type 0
IsStatement statement.Plain = ⊤
IsStatement (statement.Acl line name decl) = IsAclName name × IsDecl decl
IsStatement (statement.Rule rule) = IsRule rule
IsStatement (statement.Redirect rule) = IsRule rule × (is_redirect rule.action ≡ true)
IsStatement (statement.Backend line format unless cond) = IsFormat format × IfSome cond IsCond
IsStatement (statement.Fallback line name) = IsProxyName name

abbrev pub is_map : Conv → Bool
is_map (conv.Map head by out default) = true
is_map _ = false

-- the expression looks nothing up in a map
abbrev pub UsesNoMap : Expr → Type 0
UsesNoMap expr = list_any is_map expr.convs ≡ false
