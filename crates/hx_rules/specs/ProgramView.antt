-- How the code keeps formats and actions that are ready to be evaluated, for the contracts of its
-- private functions: each is seen as the syntax that it was built from.
use Rattle.hx_ast.specs.declared.action.Action.{Action}
use Rattle.hx_ast.specs.declared.action.Action.TheVariants as action
use Rattle.hx_ast.specs.declared.action.Part.{Part}
use Rattle.hx_ast.specs.declared.action.Part.TheVariants as part
use Rattle.hx_rules.specs.declared.action.BuiltAction.{BuiltAction}
use Rattle.hx_rules.specs.declared.action.BuiltAction.TheVariants as built
use Rattle.hx_rules.specs.declared.action.BuiltRedirect.{BuiltRedirect}
use Rattle.hx_rules.specs.declared.action.Rewrite.{Rewrite}
use Rattle.hx_rules.specs.declared.action.Rewrite.TheVariants as rewrite
use Rattle.hx_rules.specs.declared.action.TableChange.{TableChange}
use Rattle.hx_rules.specs.declared.action.TableChange.TheVariants as change
use Rattle.hx_rules.specs.declared.format.PartPlan.{PartPlan}
use Rattle.hx_rules.specs.declared.format.PartPlan.TheVariants.{Text, Value}

abbrev pub part_of_plan : PartPlan → Part
part_of_plan (Text bytes) = part.Text bytes
part_of_plan (Value expr) = part.Value expr

abbrev pub action_of_rewrite : Rewrite → Action
action_of_rewrite (rewrite.SetHeader name format) = action.SetHeader name format
action_of_rewrite (rewrite.AddHeader name format) = action.AddHeader name format
action_of_rewrite (rewrite.DelHeader name) = action.DelHeader name
action_of_rewrite (rewrite.ReplaceHeader name pattern format) =
    action.ReplaceHeader name pattern format
action_of_rewrite (rewrite.ReplaceValue name pattern format) =
    action.ReplaceValue name pattern format
action_of_rewrite (rewrite.SetMethod format) = action.SetMethod format
action_of_rewrite (rewrite.SetUri format) = action.SetUri format
action_of_rewrite (rewrite.SetPath format) = action.SetPath format
action_of_rewrite (rewrite.SetQuery format) = action.SetQuery format

abbrev pub action_of_change : TableChange → Action
action_of_change (change.AddAcl table key) = action.AddAcl table key
action_of_change (change.DelAcl table key) = action.DelAcl table key
action_of_change (change.DelMap table key) = action.DelMap table key
action_of_change (change.SetMap table key value) = action.SetMap table key value

abbrev pub action_of_redirect : BuiltRedirect → Action
action_of_redirect redirect =
    action.Redirect redirect.kind redirect.format redirect.status redirect.drop_query

abbrev pub action_of_built : BuiltAction → Action
action_of_built built.Allow = action.Allow
action_of_built (built.Deny status) = action.Deny status
action_of_built (built.Rewrite rewrite) = action_of_rewrite rewrite
action_of_built (built.SetVar name expr) = action.SetVar name expr
action_of_built (built.UnsetVar name) = action.UnsetVar name
action_of_built (built.Change change) = action_of_change change
action_of_built (built.Redirect redirect) = action_of_redirect redirect
action_of_built (built.StrictMode on) = action.StrictMode on
