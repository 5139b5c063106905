-- Views of src/action_table.rt and src/actions.rt: what each name of an action makes of its
-- arguments.
use Rattle.std.specs.Prelude.{ℕ, Bool, true, false, List}
use Rattle.hx_ast.specs.declared.Action.{Action}
use Rattle.hx_ast.specs.declared.Action.TheVariants as action
use Rattle.hx_ast.specs.declared.Part.{Part}
use Rattle.hx_spell.specs.declared.action_table.ActionName.{ActionName}
use Rattle.hx_spell.specs.declared.action_table.ActionName.TheVariants as names
use Rattle.hx_spell.specs.Actions.{BareAction, HeadMaker, bare_head, file_head, variable_head}
use Rattle.hx_spell.specs.Actions.{SetMethod, SetPath, SetUri}

abbrev pub head_maker : ActionName → HeadMaker
head_maker (names.Bare name) = bare_head name
head_maker (names.OfVariable name) = variable_head name
head_maker (names.OfFile name) = file_head name

-- actions that take a format
abbrev pub change_by : BareAction → List Part → Action
change_by SetMethod format = action.SetMethod format
change_by SetUri format = action.SetUri format
change_by SetPath format = action.SetPath format
change_by name format = action.SetQuery format

abbrev pub header_change_by : Bool → List ℕ → List Part → Action
header_change_by true name format = action.SetHeader name format
header_change_by false name format = action.AddHeader name format

abbrev pub replacement_by : Bool → List ℕ → List ℕ → List Part → Action
replacement_by true name expression format = action.ReplaceHeader name expression format
replacement_by false name expression format = action.ReplaceValue name expression format
