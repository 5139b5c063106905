-- What the statements of a configuration add to its rules, and which of them have types that fit
-- and texts that are regular expressions (HAProxy configuration manual 2.4, sections 4.2, 7.1 and
-- 7.3.1).
use Rattle.std.specs.Prelude.{◌&&◌, ℕ, Bool, true, false, List, [], ◌∷◌, ◌++◌, Option, Some, is_some}
use Rattle.std.specs.List.{flat_map, list_all}
use Rattle.std.specs.Option.{option_map_or}
use Rattle.hx_acl.specs.Expressions.{cond_has_expressions, cond_texts, has_expressions}
use Rattle.hx_acl.specs.Typing.{is_cond_typed, is_decl_typed}
use Rattle.hx_ast.specs.declared.action.Action.{Action}
use Rattle.hx_ast.specs.declared.action.Action.TheVariants as action
use Rattle.hx_ast.specs.declared.action.Part.{Part}
use Rattle.hx_ast.specs.declared.action.Part.TheVariants as part
use Rattle.hx_ast.specs.declared.expr.Expr.{Expr}
use Rattle.hx_ast.specs.declared.statement.Rule.{Rule}
use Rattle.hx_ast.specs.declared.statement.Statement.{Statement}
use Rattle.hx_ast.specs.declared.statement.Statement.TheVariants as statement
use Rattle.hx_ast.specs.declared.statement.Term.{Term}
use Rattle.hx_expr.specs.Expressions.{expression_texts}
use Rattle.hx_expr.specs.Types.{is_typed}
use Rattle.hx_outside.specs.Makers.{ExpressionText}
use Rattle.hx_sample.specs.Keys.{key_expression}
use Rattle.hx_rules.specs.Programs.{BackendRule, Rules}

-- ---- what they add

abbrev pub backend_rule : ℕ → List Part → Bool → Option (List (List Term)) → BackendRule
backend_rule line parts unless cond =
    record { line = line; format = parts; unless = unless; cond = cond }

-- the old rules, with those of one statement more
abbrev pub with_statement : Statement → Rules → Rules
with_statement (statement.Acl line name decl) old =
    record old { acls = old.acls ++ (name, decl) ∷ [] }
with_statement (statement.Rule rule) old = record old { rules = old.rules ++ rule ∷ [] }
with_statement (statement.Redirect rule) old = record old { redirects = old.redirects ++ rule ∷ [] }
with_statement (statement.Backend line parts unless cond) old =
    record old { backends = old.backends ++ backend_rule line parts unless cond ∷ [] }
with_statement (statement.Fallback line name) old = record old { fallback = Some name; fallback_line = line }
with_statement _ old = old

-- ---- their parts: the expressions of formats and actions, and the texts of regular expressions

abbrev pub part_exprs : Part → List Expr
part_exprs (part.Text bytes) = []
part_exprs (part.Value expr) = expr ∷ []

abbrev pub format_exprs : List Part → List Expr
format_exprs format = flat_map part_exprs format

abbrev pub action_exprs : Action → List Expr
action_exprs (action.SetHeader name parts) = format_exprs parts
action_exprs (action.AddHeader name parts) = format_exprs parts
action_exprs (action.ReplaceHeader name pattern parts) = format_exprs parts
action_exprs (action.ReplaceValue name pattern parts) = format_exprs parts
action_exprs (action.SetMethod parts) = format_exprs parts
action_exprs (action.SetUri parts) = format_exprs parts
action_exprs (action.SetPath parts) = format_exprs parts
action_exprs (action.SetQuery parts) = format_exprs parts
action_exprs (action.SetVar name expr) = expr ∷ []
action_exprs (action.AddAcl table key) = format_exprs key
action_exprs (action.DelAcl table key) = format_exprs key
action_exprs (action.DelMap table key) = format_exprs key
action_exprs (action.SetMap table key value) = format_exprs key ++ format_exprs value
action_exprs (action.Redirect kind parts status drop_query) = format_exprs parts
action_exprs _ = []

-- the texts that an action itself reads as regular expressions, which mind case
abbrev pub own_texts : Action → List ExpressionText
own_texts (action.ReplaceHeader name pattern format) = record { text = pattern; ci = false } ∷ []
own_texts (action.ReplaceValue name pattern format) = record { text = pattern; ci = false } ∷ []
own_texts _ = []

-- ---- types

-- whether the types of expressions fit, and those of a condition, if there is one
abbrev pub are_typed : List Expr → Option (List (List Term)) → Bool
are_typed exprs cond = list_all is_typed exprs && option_map_or is_cond_typed cond true

-- whether there is a cast at each converter of the statement's expressions, and one of the values
-- of its ACLs to the types that their match methods look at
abbrev pub is_statement_typed : Statement → Bool
is_statement_typed (statement.Acl line name decl) = is_decl_typed decl
is_statement_typed (statement.Rule rule) = are_typed (action_exprs rule.action) rule.cond
is_statement_typed (statement.Redirect rule) = are_typed (action_exprs rule.action) rule.cond
is_statement_typed (statement.Backend line parts unless cond) = are_typed (format_exprs parts) cond
is_statement_typed _ = true

-- ---- regular expressions

abbrev pub rule_has_expressions : Rule → Bool
rule_has_expressions rule =
    list_all (λ own. is_some (key_expression own.ci own.text)) (own_texts rule.action)
    && list_all has_expressions (action_exprs rule.action)
    && option_map_or cond_has_expressions rule.cond true

-- whether each text that the statement reads as a regular expression is one; the inline patterns of
-- ACLs aren't read
abbrev pub statement_has_expressions : Statement → Bool
statement_has_expressions (statement.Acl line name decl) = has_expressions decl.expr
statement_has_expressions (statement.Rule rule) = rule_has_expressions rule
statement_has_expressions (statement.Redirect rule) = rule_has_expressions rule
statement_has_expressions (statement.Backend line parts unless cond) =
    list_all has_expressions (format_exprs parts) && option_map_or cond_has_expressions cond true
statement_has_expressions _ = true

abbrev pub exprs_texts : List Expr → List ExpressionText
exprs_texts exprs = flat_map expression_texts exprs

abbrev pub action_texts : Action → List ExpressionText
action_texts action = own_texts action ++ exprs_texts (action_exprs action)

abbrev pub when_texts : Option (List (List Term)) → List ExpressionText
when_texts cond = option_map_or cond_texts cond []

abbrev pub rule_texts : Rule → List ExpressionText
rule_texts rule = action_texts rule.action ++ when_texts rule.cond

abbrev pub backend_texts : List Part → Option (List (List Term)) → List ExpressionText
backend_texts format cond = exprs_texts (format_exprs format) ++ when_texts cond

-- the texts that a statement reads as regular expressions
abbrev pub statement_texts : Statement → List ExpressionText
statement_texts (statement.Acl line name decl) = expression_texts decl.expr
statement_texts (statement.Rule rule) = rule_texts rule
statement_texts (statement.Redirect rule) = rule_texts rule
statement_texts (statement.Backend line format unless cond) = backend_texts format cond
statement_texts _ = []
