-- What stands where an evaluation comes to no end.
use Rattle.std.specs.Prelude.{◌≡◌, Bool, true, List, ◌∷◌, ◌++◌, Option}
use Rattle.hx_acl.specs.Holds.{Acls, cond_holds}
use Rattle.hx_ast.specs.declared.action.Action.{Action}
use Rattle.hx_ast.specs.declared.action.Action.TheVariants as action
use Rattle.hx_ast.specs.declared.statement.Rule.{Rule}
use Rattle.hx_ast.specs.declared.statement.Term.{Term}
use Rattle.hx_fetch.specs.declared.world.Conn.{Conn}
use Rattle.hx_http.specs.Parts.{Parts}
use Rattle.hx_outside.specs.Makers.{ExpressionText}
use Rattle.hx_sample.specs.Changes.{Addition, ChangeAsksFor, NewValue}
use Rattle.hx_sample.specs.Vars.{Scopes}
use Rattle.hx_rules.specs.Formats.{text_in}
use Rattle.hx_rules.specs.Programs.{Rules}
use Rattle.hx_rules.specs.State.{in_state, State, TableView}
use Rattle.hx_rules.specs.Verdicts.{Goes, is_taken, rules_effect}

-- a rule in a state is taken
abbrev pub is_taken_in : {S : Type 0} → TableView S → Conn → Acls → State S → Bool
    → Option (List (List Term)) → Bool
is_taken_in view conn acls state unless cond =
    is_taken (in_state cond_holds view conn state acls) unless cond

-- an action in a state reads a key as this expression
abbrev pub ActionAsksFor : {S : Type 0} → TableView S → Conn → Action → State S → ExpressionText
    → Type 0
ActionAsksFor view conn (action.AddAcl table key) state text =
    let change = Addition (text_in view conn state key) in
    ChangeAsksFor (view.heads state.tables) (view.lists state.tables) table change text
ActionAsksFor view conn (action.SetMap table key value) state text =
    let change = NewValue (text_in view conn state key) (text_in view conn state value) in
    ChangeAsksFor (view.heads state.tables) (view.lists state.tables) table change text
ActionAsksFor view conn _ state text = ⊥

-- The rules of `http-request` come to a state: some of them were judged, from the first on, and
-- none of these ended the rules.
pub record Reaches {S : Type 0} (view : TableView S) (conn : Conn) (program : Rules)
    (origin state : State S) : Type 0 where
  pub done : List Rule
  pub left : List Rule
  pub rules : program.rules ≡ done ++ left
  pub effect : rules_effect view conn program.acls done origin ≡ Goes state

-- A rule of `http-request` asks for this expression, in the state to which those before it come.
pub record RulesAskFor {S : Type 0} (view : TableView S) (conn : Conn) (program : Rules)
    (origin : State S) (text : ExpressionText) : Type 0 where
  pub done : List Rule
  pub rule : Rule
  pub left : List Rule
  pub state : State S
  pub rules : program.rules ≡ done ++ rule ∷ left
  pub effect : rules_effect view conn program.acls done origin ≡ Goes state
  pub applies : is_taken_in view conn program.acls state rule.unless rule.cond ≡ true
  pub asks : ActionAsksFor view conn rule.action state text

-- the message, the variables and the tables are those of a state to which the rules come
pub record StandsAt {S : Type 0} (view : TableView S) (conn : Conn) (program : Rules)
    (origin : State S) (message : Parts) (vars : Scopes) (tables : S) : Type 0 where
  pub state : State S
  pub reaches : Reaches view conn program origin state
  pub message_is : state.message ≡ message
  pub vars_are : state.vars ≡ vars
  pub tables_are : state.tables ≡ tables
