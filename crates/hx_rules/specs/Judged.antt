-- In which state a statement is judged that decides what is made of a request (HAProxy
-- configuration manual 2.4, section 4.2, `http-request`, `redirect`, `use_backend`,
-- `default_backend`). Rules of `http-request` are judged in the state that those before them leave,
-- and the statements of the other kinds in the state that all rules of `http-request` leave.
use Rattle.std.specs.Prelude.{◌≡◌, ℕ, ◌&&◌, Bool, false, true, List, ◌∷◌, ◌++◌, length, is_some}
use Rattle.std.specs.List.{find, list_any}
use Rattle.std.specs.Option.{option_map_or}
use Rattle.hx_acl.specs.Holds.{Acls}
use Rattle.hx_ast.specs.declared.statement.Rule.{Rule}
use Rattle.hx_fetch.specs.declared.world.Conn.{Conn}
use Rattle.hx_rules.specs.declared.deciding.Deciding.{Deciding}
use Rattle.hx_rules.specs.declared.deciding.Deciding.TheVariants as by
use Rattle.hx_rules.specs.declared.verdict.Verdict.{Verdict}
use Rattle.hx_rules.specs.Deciding.{names_backend}
use Rattle.hx_rules.specs.Failures.{is_taken_in}
use Rattle.hx_rules.specs.Formats.{text_in}
use Rattle.hx_rules.specs.Programs.{BackendRule, Rules}
use Rattle.hx_rules.specs.Reached.{IsReachedAt}
use Rattle.hx_rules.specs.State.{State, TableView}
use Rattle.hx_rules.specs.Verdicts.{action_effect, Effect, Ends, Goes, redirection, rules_effect, Stops}

-- the first item that passes is this one, at this position
pub record IsFirst {A : Type 0} (passes : A → Bool) (xs : List A) (position : ℕ) (x : A)
    : Type 0 where
  pub before : List A
  pub after : List A
  pub items : xs ≡ before ++ x ∷ after
  pub count : position ≡ length before
  pub none : list_any passes before ≡ false
  pub this : passes x ≡ true

-- ---- rules of `http-request`

-- The rule at a position ends the rules with a verdict, and is judged in this state: it is reached
-- in the state, taken there, and its action gives the verdict.
pub record EndsRules {S : Type 0} (view : TableView S) (conn : Conn) (program : Rules)
    (origin : State S) (position : ℕ) (state : State S) : Type 0 where
  pub rule : Rule
  pub reached : IsReachedAt view conn program origin position rule state
  pub taken : is_taken_in view conn program.acls state rule.unless rule.cond ≡ true
  pub given : Verdict
  pub last : State S
  pub ends : action_effect view conn rule.action state ≡ Ends given last

-- rules of this effect give no verdict, and leave this state
abbrev pub LeavesUndecided : {S : Type 0} → Effect S → State S → Type 0
LeavesUndecided (Goes last) state = last ≡ state
LeavesUndecided (Stops last) state = last ≡ state
LeavesUndecided (Ends given last) state = ⊥

-- ---- redirects and backends

-- a statement redirects in a state: this is what it does, and it is taken
abbrev pub redirects_in : {S : Type 0} → TableView S → Conn → Acls → State S → Rule → Bool
redirects_in view conn acls state rule =
    is_some (redirection (text_in view conn state) state.message rule.action)
    && is_taken_in view conn acls state rule.unless rule.cond

-- the rules of `http-request` give no verdict and leave this state, where a redirect at this
-- position is the first that is taken
pub record Redirects {S : Type 0} (view : TableView S) (conn : Conn) (program : Rules)
    (origin : State S) (position : ℕ) (state : State S) : Type 0 where
  pub undecided : LeavesUndecided (rules_effect view conn program.acls program.rules origin) state
  pub rule : Rule
  pub first : IsFirst (redirects_in view conn program.acls state) program.redirects position rule

-- the rules of `http-request` give no verdict and leave this state, where no redirect is taken
pub record Passes {S : Type 0} (view : TableView S) (conn : Conn) (program : Rules)
    (origin state : State S) : Type 0 where
  pub undecided : LeavesUndecided (rules_effect view conn program.acls program.rules origin) state
  pub redirected : list_any (redirects_in view conn program.acls state) program.redirects ≡ false

-- a rule of `use_backend` is taken in a state
abbrev pub backend_taken_in : {S : Type 0} → TableView S → Conn → Acls → State S → BackendRule
    → Bool
backend_taken_in view conn acls state rule =
    is_taken_in view conn acls state rule.unless rule.cond

-- the format of a rule of `use_backend` makes the name of a backend in a state
abbrev pub names_in : {S : Type 0} → TableView S → Conn → State S → BackendRule → Bool
names_in view conn state rule = names_backend (text_in view conn state rule.format)

-- the request passes, and the rule of `use_backend` at this position is the first that is taken in
-- this state, and makes the name of a backend
pub record GivesBackend {S : Type 0} (view : TableView S) (conn : Conn) (program : Rules)
    (origin : State S) (position : ℕ) (state : State S) : Type 0 where
  pub passes : Passes view conn program origin state
  pub rule : BackendRule
  pub first : IsFirst (backend_taken_in view conn program.acls state) program.backends position rule
  pub named : names_in view conn state rule ≡ true

-- the request passes, and no rule of `use_backend` gives the backend: none is taken in this state,
-- or the first that is makes no name
pub record GivesNoBackend {S : Type 0} (view : TableView S) (conn : Conn) (program : Rules)
    (origin state : State S) : Type 0 where
  pub passes : Passes view conn program origin state
  pub named : option_map_or (names_in view conn state)
      (find (backend_taken_in view conn program.acls state) program.backends) false ≡ false

-- ---- statements

-- The statement decides what a program makes of a request from `origin`, and is judged in `state`
-- while the request is evaluated.
abbrev pub IsJudgedIn : {S : Type 0} → TableView S → Conn → Rules → State S → Deciding → State S
    → Type 0
IsJudgedIn view conn program origin (by.Rule position) state =
    EndsRules view conn program origin position state
IsJudgedIn view conn program origin (by.Redirect position) state =
    Redirects view conn program origin position state
IsJudgedIn view conn program origin (by.Backend position) state =
    GivesBackend view conn program origin position state
IsJudgedIn view conn program origin by.Fallback state =
    GivesNoBackend view conn program origin state × (is_some program.fallback ≡ true)
IsJudgedIn view conn program origin by.Nothing state =
    GivesNoBackend view conn program origin state × (is_some program.fallback ≡ false)
