-- The variables that a statement reads and no line of the configuration sets (HAProxy configuration
-- manual 2.4, section 7.3.2, `var`).
use Rattle.std.specs.Prelude.{ℕ, ◌&&◌, Bool, false, List, [], ◌++◌, codes, flat_map, Option, None, Some, if◌then◌else◌}
use Rattle.std.specs.Fmt.{decimal}
use Rattle.std.specs.List.{list_any}
use Rattle.std.specs.Str.{bytes_eq}
use Rattle.hx_text.specs.declared.names.Scope.{Scope}
use Rattle.hx_text.specs.declared.names.Scope.TheVariants as scope
use Rattle.hx_text.specs.declared.names.VarName.{VarName}
use Rattle.hx_ast.specs.declared.action.Action.{Action}
use Rattle.hx_ast.specs.declared.action.Action.TheVariants as action
use Rattle.hx_ast.specs.declared.action.Part.{Part}
use Rattle.hx_ast.specs.declared.action.Part.TheVariants.{Text, Value}
use Rattle.hx_ast.specs.declared.conv.Conv.{Conv}
use Rattle.hx_ast.specs.declared.conv.Conv.TheVariants as conv
use Rattle.hx_ast.specs.declared.expr.Expr.{Expr}
use Rattle.hx_ast.specs.declared.fetch.Fetch.{Fetch}
use Rattle.hx_ast.specs.declared.fetch.Fetch.TheVariants as fetch
use Rattle.hx_ast.specs.declared.statement.AclUse.{AclUse}
use Rattle.hx_ast.specs.declared.statement.AclUse.TheVariants.{Named, Own}
use Rattle.hx_ast.specs.declared.statement.Statement.{Statement}
use Rattle.hx_ast.specs.declared.statement.Statement.TheVariants as statement
use Rattle.hx_ast.specs.declared.statement.Term.{Term}
use Rattle.hx_ast.specs.declared.val.Val.{Val}
use Rattle.hx_ast.specs.declared.val.Val.TheVariants as val
use Rattle.hx_lint.specs.declared.judging.JudgedLine.{JudgedLine}
use Rattle.hx_lint.specs.declared.judging.Judgement.{Judgement}
use Rattle.hx_lint.specs.declared.judging.Judgement.TheVariants.{Taken, Refused}

-- ---- names

abbrev pub scope_text : Scope → List ℕ
scope_text scope.Proc = codes "proc"
scope_text scope.Sess = codes "sess"
scope_text scope.Txn = codes "txn"
scope_text scope.Req = codes "req"
scope_text scope.Res = codes "res"

abbrev pub is_same : VarName → VarName → Bool
is_same one other =
    bytes_eq (scope_text one.scope) (scope_text other.scope) && bytes_eq one.name other.name

-- ---- what is set

abbrev pub action_sets : VarName → Action → Bool
action_sets name (action.SetVar other expr) = is_same name other
action_sets name _ = false

abbrev pub statement_sets : VarName → Statement → Bool
statement_sets name (statement.Rule rule) = action_sets name rule.action
statement_sets name _ = false

abbrev pub judgement_sets : VarName → Judgement → Bool
judgement_sets name (Taken words st) = statement_sets name st
judgement_sets name (Refused code word) = false

-- a line sets the variable of this name
abbrev pub sets : VarName → JudgedLine → Bool
sets name line = judgement_sets name line.judgement

-- ---- what is told of a name that is read

-- what begins all that is told of a line
abbrev pub place_text : ℕ → List ℕ
place_text number = decimal number ++ codes " "

abbrev pub unset_line : ℕ → VarName → List ℕ
unset_line number name =
    place_text number ++ codes "unset " ++ scope_text name.scope ++ codes "." ++ name.name
    ++ codes "\n"

-- of the line with this number, where these are all lines
abbrev pub name_told : List JudgedLine → ℕ → VarName → List ℕ
name_told lines number name =
    if list_any (sets name) lines then [] else unset_line number name

-- ---- the names that are read, in the order of the words

abbrev pub operand_told : List JudgedLine → ℕ → Val → List ℕ
operand_told lines number (val.Number n) = []
operand_told lines number (val.Var name) = name_told lines number name

abbrev pub option_told : List JudgedLine → ℕ → Option VarName → List ℕ
option_told lines number None = []
option_told lines number (Some name) = name_told lines number name

abbrev pub fetch_told : List JudgedLine → ℕ → Fetch → List ℕ
fetch_told lines number (fetch.Var name default) = name_told lines number name
fetch_told lines number _ = []

abbrev pub conv_told : List JudgedLine → ℕ → Conv → List ℕ
conv_told lines number (conv.Concat start name end) = option_told lines number name
conv_told lines number (conv.Strcmp name) = name_told lines number name
conv_told lines number (conv.Add operand) = operand_told lines number operand
conv_told lines number (conv.Sub operand) = operand_told lines number operand
conv_told lines number (conv.Mul operand) = operand_told lines number operand
conv_told lines number (conv.Div operand) = operand_told lines number operand
conv_told lines number (conv.Mod operand) = operand_told lines number operand
conv_told lines number (conv.And operand) = operand_told lines number operand
conv_told lines number (conv.Or operand) = operand_told lines number operand
conv_told lines number (conv.Xor operand) = operand_told lines number operand
conv_told lines number _ = []

abbrev pub expr_told : List JudgedLine → ℕ → Expr → List ℕ
expr_told lines number expr =
    fetch_told lines number expr.fetch ++ flat_map (conv_told lines number) expr.convs

abbrev pub part_told : List JudgedLine → ℕ → Part → List ℕ
part_told lines number (Text bytes) = []
part_told lines number (Value expr) = expr_told lines number expr

abbrev pub format_told : List JudgedLine → ℕ → List Part → List ℕ
format_told lines number format = flat_map (part_told lines number) format

abbrev pub action_told : List JudgedLine → ℕ → Action → List ℕ
action_told lines number (action.SetHeader name format) = format_told lines number format
action_told lines number (action.AddHeader name format) = format_told lines number format
action_told lines number (action.ReplaceHeader name expression format) =
    format_told lines number format
action_told lines number (action.ReplaceValue name expression format) =
    format_told lines number format
action_told lines number (action.SetMethod format) = format_told lines number format
action_told lines number (action.SetUri format) = format_told lines number format
action_told lines number (action.SetPath format) = format_told lines number format
action_told lines number (action.SetQuery format) = format_told lines number format
action_told lines number (action.SetVar name expr) = expr_told lines number expr
action_told lines number (action.AddAcl table key) = format_told lines number key
action_told lines number (action.DelAcl table key) = format_told lines number key
action_told lines number (action.DelMap table key) = format_told lines number key
action_told lines number (action.SetMap table key value) =
    format_told lines number key ++ format_told lines number value
action_told lines number (action.Redirect kind format status drop_query) =
    format_told lines number format
action_told lines number _ = []

abbrev pub use_told : List JudgedLine → ℕ → AclUse → List ℕ
use_told lines number (Named name) = []
use_told lines number (Own decl) = expr_told lines number decl.expr

abbrev pub conj_told : List JudgedLine → ℕ → List Term → List ℕ
conj_told lines number conj = flat_map (λ term. use_told lines number term.acl) conj

abbrev pub cond_told : List JudgedLine → ℕ → Option (List (List Term)) → List ℕ
cond_told lines number None = []
cond_told lines number (Some cond) = flat_map (conj_told lines number) cond

-- the variables that a statement reads and none of the lines sets, one a line
abbrev pub unset_told : List JudgedLine → ℕ → Statement → List ℕ
unset_told lines number (statement.Acl line name decl) = expr_told lines number decl.expr
unset_told lines number (statement.Rule rule) =
    action_told lines number rule.action ++ cond_told lines number rule.cond
unset_told lines number (statement.Redirect rule) =
    action_told lines number rule.action ++ cond_told lines number rule.cond
unset_told lines number (statement.Backend line format unless cond) =
    format_told lines number format ++ cond_told lines number cond
unset_told lines number _ = []
