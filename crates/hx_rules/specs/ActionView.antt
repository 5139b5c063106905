-- Groups of actions, and what they read as regular expressions, for the contracts of the functions
-- that build them.
use Rattle.std.specs.Prelude.{◌&&◌, ℕ, Bool, true, false, List, Option, None, Some, is_some}
use Rattle.std.specs.List.{list_all}
use Rattle.hx_acl.specs.Expressions.{has_expressions}
use Rattle.hx_ast.specs.declared.action.Action.{Action}
use Rattle.hx_ast.specs.declared.action.Action.TheVariants as action
use Rattle.hx_ast.specs.declared.action.Part.{Part}
use Rattle.hx_sample.specs.Keys.{key_expression}
use Rattle.hx_rules.specs.Building.{action_exprs, own_texts}

-- whether it changes a list
abbrev pub is_change : Action → Bool
is_change (action.AddAcl table key) = true
is_change (action.DelAcl table key) = true
is_change (action.DelMap table key) = true
is_change (action.SetMap table key value) = true
is_change _ = false

-- the key of an action that changes a list by that alone
abbrev pub change_key : Action → Option (List Part)
change_key (action.AddAcl table key) = Some key
change_key (action.DelAcl table key) = Some key
change_key (action.DelMap table key) = Some key
change_key _ = None

-- the format of an action that rewrites the head by that alone, beside the name of a header line
abbrev pub edit_format : Action → Option (List Part)
edit_format (action.SetHeader name format) = Some format
edit_format (action.AddHeader name format) = Some format
edit_format (action.SetMethod format) = Some format
edit_format (action.SetUri format) = Some format
edit_format (action.SetPath format) = Some format
edit_format (action.SetQuery format) = Some format
edit_format _ = None

-- the replacement of the values of lines, each between commas, or the whole of a line
abbrev pub replacing_action : Bool → List ℕ → List ℕ → List Part → Action
replacing_action true name pattern format = action.ReplaceValue name pattern format
replacing_action false name pattern format = action.ReplaceHeader name pattern format

-- whether each text that an action reads as a regular expression is one
abbrev pub are_expressions : Action → Bool
are_expressions action =
    list_all (λ own. is_some (key_expression own.ci own.text)) (own_texts action)
    && list_all has_expressions (action_exprs action)
