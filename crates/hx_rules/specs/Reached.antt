-- Rules that are reached, and rewrites that are refused there.
use Rattle.std.specs.Prelude.{◌≡◌, ℕ, Bool, List, ◌∷◌, ◌++◌, length, is_some}
use Rattle.hx_ast.specs.declared.action.Action.{Action}
use Rattle.hx_ast.specs.declared.statement.Rule.{Rule}
use Rattle.hx_fetch.specs.declared.world.Conn.{Conn}
use Rattle.hx_rules.specs.Formats.{text_in}
use Rattle.hx_rules.specs.Programs.{Rules}
use Rattle.hx_rules.specs.Rewrites.{edit_of}
use Rattle.hx_rules.specs.State.{State, TableView}
use Rattle.hx_rules.specs.Verdicts.{Goes, rules_effect}

-- A rule of `http-request` is reached in a state: those before it come to this state, and none of
-- them ended the rules. Others come after it.
pub record IsReached {S : Type 0} (view : TableView S) (conn : Conn) (program : Rules)
    (origin state : State S) (before : List Rule) (rule : Rule) (after : List Rule) : Type 0 where
  pub rules : program.rules ≡ before ++ rule ∷ after
  pub effect : rules_effect view conn program.acls before origin ≡ Goes state

-- the rule of `http-request` at a position, counted from 0, is reached in a state
pub record IsReachedAt {S : Type 0} (view : TableView S) (conn : Conn) (program : Rules)
    (origin : State S) (position : ℕ) (rule : Rule) (state : State S) : Type 0 where
  pub before : List Rule
  pub after : List Rule
  pub reached : IsReached view conn program origin state before rule after
  pub count : position ≡ length before

-- the program with these rules of `http-request`, and all else as it is
abbrev pub with_rules : List Rule → Rules → Rules
with_rules rules program = record program { rules = rules }

-- whether a rewriting action is refused in a state; any other action isn't
abbrev pub is_refused : {S : Type 0} → TableView S → Conn → Action → State S → Bool
is_refused view conn does state =
    is_some (edit_of (text_in view conn state) does state.message).fault
