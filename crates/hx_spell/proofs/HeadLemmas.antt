-- What a statement names stays named where more heads and references are known.
use Rattle.std.proofs.Common.{ℕ, ◌≤◌, List, Option, None, Some, arith}
use Rattle.std.specs.Prelude.{IfSome}
use Rattle.std.proofs.lemmas.List.Elements.{All-weaker}
use Rattle.hx_ast.specs.declared.AclUse.{AclUse}
use Rattle.hx_ast.specs.declared.AclUse.TheVariants.{Named, Own}
use Rattle.hx_ast.specs.declared.Action.{Action}
use Rattle.hx_ast.specs.declared.Action.TheVariants as action
use Rattle.hx_ast.specs.declared.Decl.{Decl}
use Rattle.hx_ast.specs.declared.Expr.{Expr}
use Rattle.hx_ast.specs.declared.Part.{Part}
use Rattle.hx_ast.specs.declared.Rule.{Rule}
use Rattle.hx_ast.specs.declared.Statement.{Statement}
use Rattle.hx_ast.specs.declared.Statement.TheVariants as statement
use Rattle.hx_ast.specs.declared.Term.{Term}
use Rattle.hx_calls.specs.declared.table_specs.HeadSpec.{HeadSpec}
use Rattle.hx_calls.specs.ExpressionHeads.{ExprNames, FormatNames, IsHeadBy, NamesHead}
use Rattle.hx_spell.specs.Heads.{ActionNames, CondNames, ConjNames, DeclNames, RuleNames, StatementNames, UseNames}
use Rattle.hx_calls.specs.Known.{BeginsWith}
use Rattle.hx_calls.proofs.ExpressionHeadLemmas.{expr_later, format_later, later_by, names_later}

-- ---- conditions

pub decl_later : (before after : List HeadSpec) → BeginsWith before after → (decl : Decl)
    → DeclNames before decl → DeclNames after decl
decl_later before after begins decl names = record {
  searched = All-weaker (IsHeadBy before decl.by) (IsHeadBy after decl.by)
      (later_by before after begins decl.by) decl.heads names.searched;
  maps = All-weaker (NamesHead before) (NamesHead after) (names_later before after begins)
      decl.expr.convs names.maps;
}

pub use_later : (before after : List HeadSpec) → BeginsWith before after → (acl : AclUse)
    → UseNames before acl → UseNames after acl
use_later before after begins (Named name) names = tt
use_later before after begins (Own decl) names = decl_later before after begins decl names

pub conj_later : (before after : List HeadSpec) → BeginsWith before after → (terms : List Term)
    → ConjNames before terms → ConjNames after terms
conj_later before after begins =
    All-weaker (λ (term : Term). UseNames before term.acl)
    (λ (term : Term). UseNames after term.acl)
    (λ term names. use_later before after begins term.acl names)

pub cond_later : (before after : List HeadSpec) → BeginsWith before after
    → (cond : Option (List (List Term))) → IfSome cond (CondNames before)
    → IfSome cond (CondNames after)
cond_later before after begins None names = tt
cond_later before after begins (Some cond) names =
    All-weaker (ConjNames before) (ConjNames after) (conj_later before after begins) cond names

-- ---- actions

-- formats and expressions that name what they named before
record Stay (before after : List HeadSpec) : Type 0 where
  format : (parts : List Part) → FormatNames before parts → FormatNames after parts
  expr : (e : Expr) → ExprNames before e → ExprNames after e

action_stays : (before after : List HeadSpec) (n m : ℕ) → Stay before after → n ≤ m
    → (act : Action) → ActionNames before n act → ActionNames after m act
action_stays before after n m stay least (action.SetHeader name format) names =
    stay.format format names
action_stays before after n m stay least (action.AddHeader name format) names =
    stay.format format names
action_stays before after n m stay least (action.ReplaceHeader name expression format) names =
    stay.format format names
action_stays before after n m stay least (action.ReplaceValue name expression format) names =
    stay.format format names
action_stays before after n m stay least (action.SetMethod format) names = stay.format format names
action_stays before after n m stay least (action.SetUri format) names = stay.format format names
action_stays before after n m stay least (action.SetPath format) names = stay.format format names
action_stays before after n m stay least (action.SetQuery format) names = stay.format format names
action_stays before after n m stay least (action.SetVar name expr) names = stay.expr expr names
action_stays before after n m stay least (action.AddAcl table format) (there, names) =
    (omega (arith, there, least), stay.format format names)
action_stays before after n m stay least (action.DelAcl table format) (there, names) =
    (omega (arith, there, least), stay.format format names)
action_stays before after n m stay least (action.DelMap table format) (there, names) =
    (omega (arith, there, least), stay.format format names)
action_stays before after n m stay least (action.SetMap table key value) (there, names, others) =
    (omega (arith, there, least), stay.format key names, stay.format value others)
action_stays before after n m stay least (action.Redirect kind format status drops) names =
    stay.format format names
action_stays before after n m stay least _ names = tt

pub action_later : (before after : List HeadSpec) (n m : ℕ) → BeginsWith before after → n ≤ m
    → (act : Action) → ActionNames before n act → ActionNames after m act
action_later before after n m begins =
    action_stays before after n m (record {
      format = format_later before after begins;
      expr = expr_later before after begins;
    })

-- ---- statements

rule_later : (before after : List HeadSpec) (n m : ℕ) → BeginsWith before after → n ≤ m
    → (rule : Rule) → RuleNames before n rule → RuleNames after m rule
rule_later before after n m begins least rule names = record {
  action = action_later before after n m begins least rule.action names.action;
  cond = cond_later before after begins rule.cond names.cond;
}

-- the heads and references that a statement names are there after later lines too
pub statement_later : (before after : List HeadSpec) (n m : ℕ) → BeginsWith before after → n ≤ m
    → (said : Statement) → StatementNames before n said → StatementNames after m said
statement_later before after n m begins least statement.Plain names = tt
statement_later before after n m begins least (statement.Acl line name decl) names =
    decl_later before after begins decl names
statement_later before after n m begins least (statement.Rule rule) names =
    rule_later before after n m begins least rule names
statement_later before after n m begins least (statement.Redirect rule) names =
    rule_later before after n m begins least rule names
statement_later before after n m begins least (statement.Backend line format unless cond)
    (names, others) =
    (format_later before after begins format names, cond_later before after begins cond others)
statement_later before after n m begins least (statement.Fallback line name) names = tt
