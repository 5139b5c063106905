-- The expressions and the ACLs of a statement: those of its action or format, and those of its
-- condition (HAProxy configuration manual 2.4, sections 4.2, 7.1 and 7.2).
use Rattle.std.specs.Prelude.{◌||◌, Bool, false, List}
use Rattle.std.specs.List.{list_any}
use Rattle.std.specs.Option.{option_map_or}
use Rattle.hx_ast.specs.declared.action.Action.{Action}
use Rattle.hx_ast.specs.declared.action.Action.TheVariants as action
use Rattle.hx_ast.specs.declared.action.Part.{Part}
use Rattle.hx_ast.specs.declared.action.Part.TheVariants.{Text, Value}
use Rattle.hx_ast.specs.declared.expr.Expr.{Expr}
use Rattle.hx_ast.specs.declared.statement.AclUse.{AclUse}
use Rattle.hx_ast.specs.declared.statement.Statement.{Statement}
use Rattle.hx_ast.specs.declared.statement.Statement.TheVariants as statement
use Rattle.hx_ast.specs.declared.statement.Term.{Term}

-- ---- expressions that are filled in

abbrev pub part_passes : (Expr → Bool) → Part → Bool
part_passes test (Text bytes) = false
part_passes test (Value expr) = test expr

-- one of the expressions of a format passes a test
abbrev pub format_passes : (Expr → Bool) → List Part → Bool
format_passes test format = list_any (part_passes test) format

-- the same of those of an action
abbrev pub action_passes : (Expr → Bool) → Action → Bool
action_passes test (action.SetHeader name format) = format_passes test format
action_passes test (action.AddHeader name format) = format_passes test format
action_passes test (action.ReplaceHeader name expression format) = format_passes test format
action_passes test (action.ReplaceValue name expression format) = format_passes test format
action_passes test (action.SetMethod format) = format_passes test format
action_passes test (action.SetUri format) = format_passes test format
action_passes test (action.SetPath format) = format_passes test format
action_passes test (action.SetQuery format) = format_passes test format
action_passes test (action.SetVar name expr) = test expr
action_passes test (action.AddAcl table key) = format_passes test key
action_passes test (action.DelAcl table key) = format_passes test key
action_passes test (action.DelMap table key) = format_passes test key
action_passes test (action.SetMap table key value) =
    format_passes test key || format_passes test value
action_passes test (action.Redirect kind format status drop_query) = format_passes test format
action_passes test _ = false

-- the same of those that a statement fills in where it is taken
abbrev pub filled_passes : (Expr → Bool) → Statement → Bool
filled_passes test (statement.Rule rule) = action_passes test rule.action
filled_passes test (statement.Redirect rule) = action_passes test rule.action
filled_passes test (statement.Backend line format unless cond) = format_passes test format
filled_passes test _ = false

-- ---- ACLs

-- one of the ACLs of a condition passes a test
abbrev pub cond_passes : (AclUse → Bool) → List (List Term) → Bool
cond_passes test cond = list_any (list_any (λ term. test term.acl)) cond

-- one of the ACLs of a statement's condition passes a test
abbrev pub use_passes : (AclUse → Bool) → Statement → Bool
use_passes test (statement.Rule rule) = option_map_or (cond_passes test) rule.cond false
use_passes test (statement.Redirect rule) = option_map_or (cond_passes test) rule.cond false
use_passes test (statement.Backend line format unless cond) =
    option_map_or (cond_passes test) cond false
use_passes test _ = false
