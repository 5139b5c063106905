-- Which heads a statement names: those of its ACLs, and those of the maps in its expressions; and
-- which references it changes (HAProxy configuration manual 2.4, sections 4.2, 7.1 and 7.3.1,
-- `map`).
use Rattle.std.specs.Prelude.{ℕ, ◌<◌, List, IfSome, ⊤}
use Rattle.std.specs.List.{All}
use Rattle.hx_ast.specs.declared.AclUse.{AclUse}
use Rattle.hx_ast.specs.declared.AclUse.TheVariants.{Named, Own}
use Rattle.hx_ast.specs.declared.Action.{Action}
use Rattle.hx_ast.specs.declared.Action.TheVariants as action
use Rattle.hx_ast.specs.declared.Decl.{Decl}
use Rattle.hx_ast.specs.declared.Rule.{Rule}
use Rattle.hx_ast.specs.declared.Statement.{Statement}
use Rattle.hx_ast.specs.declared.Statement.TheVariants as statement
use Rattle.hx_ast.specs.declared.Term.{Term}
use Rattle.hx_calls.specs.ExpressionHeads.{ExprNames, FormatNames, IsHeadBy, NamesHead}
use Rattle.hx_calls.specs.declared.table_specs.HeadSpec.{HeadSpec}

-- each head that an ACL names is there, with the method of the ACL or of the map
pub record DeclNames (heads : List HeadSpec) (decl : Decl) : Type 0 where
  pub searched : All (IsHeadBy heads decl.by) decl.heads
  pub maps : All (NamesHead heads) decl.expr.convs

abbrev pub UseNames : List HeadSpec → AclUse → Type 0
UseNames heads (Named name) = ⊤
UseNames heads (Own decl) = DeclNames heads decl

abbrev pub ConjNames : List HeadSpec → List Term → Type 0
ConjNames heads terms = All (λ term. UseNames heads term.acl) terms

abbrev pub CondNames : List HeadSpec → List (List Term) → Type 0
CondNames heads cond = All (ConjNames heads) cond

-- the position of one of so many references
abbrev pub IsTable : ℕ → ℕ → Type 0
IsTable count table = table < count

-- each head that an action names is there, and so is the reference that it changes
abbrev pub ActionNames : List HeadSpec → ℕ → Action → Type 0
ActionNames heads count (action.SetHeader name format) = FormatNames heads format
ActionNames heads count (action.AddHeader name format) = FormatNames heads format
ActionNames heads count (action.ReplaceHeader name expression format) = FormatNames heads format
ActionNames heads count (action.ReplaceValue name expression format) = FormatNames heads format
ActionNames heads count (action.SetMethod format) = FormatNames heads format
ActionNames heads count (action.SetUri format) = FormatNames heads format
ActionNames heads count (action.SetPath format) = FormatNames heads format
ActionNames heads count (action.SetQuery format) = FormatNames heads format
ActionNames heads count (action.SetVar name expr) = ExprNames heads expr
ActionNames heads count (action.AddAcl table format) =
    IsTable count table × FormatNames heads format
ActionNames heads count (action.DelAcl table format) =
    IsTable count table × FormatNames heads format
ActionNames heads count (action.DelMap table format) =
    IsTable count table × FormatNames heads format
ActionNames heads count (action.SetMap table key value) =
    IsTable count table × FormatNames heads key × FormatNames heads value
ActionNames heads count (action.Redirect kind format status drops) = FormatNames heads format
ActionNames heads count _ = ⊤

pub record RuleNames (heads : List HeadSpec) (count : ℕ) (rule : Rule) : Type 0 where
  pub action : ActionNames heads count rule.action
  pub cond : IfSome rule.cond (CondNames heads)

-- each head that a statement names is there, with the method by which it is searched, and so is
-- each of the references, so many, that it changes
abbrev pub StatementNames : List HeadSpec → ℕ → Statement → Type 0
StatementNames heads count statement.Plain = ⊤
StatementNames heads count (statement.Acl line name decl) = DeclNames heads decl
StatementNames heads count (statement.Rule rule) = RuleNames heads count rule
StatementNames heads count (statement.Redirect rule) = RuleNames heads count rule
StatementNames heads count (statement.Backend line format unless cond) =
    FormatNames heads format × IfSome cond (CondNames heads)
StatementNames heads count (statement.Fallback line name) = ⊤
