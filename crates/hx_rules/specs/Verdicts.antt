-- What rules make of a request: its verdict, and what stands after them (HAProxy configuration
-- manual 2.4, section 4.2, `http-request`, `redirect`, `use_backend`, `default_backend`).
use Rattle.std.specs.Prelude.{ℕ, ◌&&◌, nat_lt, Bool, true, not, ◌==◌, List, [], ◌∷◌, length, Option, None, Some, if◌then◌else◌}
use Rattle.std.specs.List.{filter, filter_map, find, list_all}
use Rattle.std.specs.Option.{is_none, option_map_or, unwrap_or}
use Rattle.hx_acl.specs.Holds.{Acls, cond_holds}
use Rattle.hx_ast.specs.declared.action.Action.{Action}
use Rattle.hx_ast.specs.declared.action.Action.TheVariants as action
use Rattle.hx_ast.specs.declared.action.Part.{Part}
use Rattle.hx_ast.specs.declared.statement.Rule.{Rule}
use Rattle.hx_ast.specs.declared.statement.Term.{Term}
use Rattle.hx_expr.specs.Values.{expr_value}
use Rattle.hx_fetch.specs.World.{Context}
use Rattle.hx_fetch.specs.declared.world.Conn.{Conn}
use Rattle.hx_http.specs.Parts.{Parts}
use Rattle.hx_sample.specs.Changes.{Addition, ListChange, NewValue, Removal}
use Rattle.hx_sample.specs.Find.{Entry, first_item}
use Rattle.hx_sample.specs.Tables.{TableHead}
use Rattle.hx_sample.specs.Vars.{Scopes, with_var, without_var}
use Rattle.hx_rules.specs.declared.verdict.Verdict.{Verdict}
use Rattle.hx_rules.specs.declared.verdict.Verdict.TheVariants as verdict
use Rattle.hx_rules.specs.Formats.{format_text, text_in}
use Rattle.hx_rules.specs.Locations.{redirect_verdict}
use Rattle.hx_rules.specs.Programs.{BackendRule, Rules}
use Rattle.hx_rules.specs.Rewrites.{Edit, edit_of}
use Rattle.hx_rules.specs.State.{in_state, State, TableView}

-- ---- when a rule is taken

-- Whether a rule is taken, where `holds` says which conditions hold: with `if` where its condition
-- holds, with `unless` where it doesn't, and always without one.
abbrev pub is_taken : (List (List Term) → Bool) → Bool → Option (List (List Term)) → Bool
is_taken holds unless cond =
    option_map_or (λ given. if unless then not (holds given) else holds given) cond true

-- ---- actions

-- What comes after a rule: the next rule, in a state; the end of the rules of `http-request`; or
-- the verdict.
pub data Effect (S : Type 0) : Type 0 where
  Goes Stops : State S → Effect S
  Ends : Verdict → State S → Effect S

-- a rewrite that is refused changes nothing, and ends the request with an error in strict mode
abbrev pub edit_effect : {S : Type 0} → Edit → State S → Effect S
edit_effect edit state =
    if is_none edit.fault then Goes (record state { message = edit.head })
    else if state.strict then Ends verdict.Error state else Goes state

-- a change of the list at a position
abbrev pub change_effect : {S : Type 0} → TableView S → ℕ → ListChange → State S → Effect S
change_effect view table change state =
    Goes (record state { tables = view.after state.tables table change })

-- What an action does in a state. Without a status a request is denied with 403. A variable keeps
-- its value where an expression has none. A key is removed from a list of patterns as it is from a
-- map. What isn't named here rewrites the head.
abbrev pub action_effect : {S : Type 0} → TableView S → Conn → Action → State S → Effect S
action_effect view conn action.Allow state = Stops state
action_effect view conn (action.Deny status) state =
    Ends (verdict.Deny (unwrap_or status 403)) state
action_effect view conn (action.SetVar name expr) state =
    let value = in_state expr_value view conn state expr in
    Goes (record state { vars = option_map_or (with_var state.vars conn.id name) value state.vars })
action_effect view conn (action.UnsetVar name) state =
    Goes (record state { vars = without_var state.vars conn.id name })
action_effect view conn (action.AddAcl table key) state =
    change_effect view table (Addition (text_in view conn state key)) state
action_effect view conn (action.DelAcl table key) state =
    change_effect view table (Removal (text_in view conn state key)) state
action_effect view conn (action.DelMap table key) state =
    change_effect view table (Removal (text_in view conn state key)) state
action_effect view conn (action.SetMap table key value) state =
    let change = NewValue (text_in view conn state key) (text_in view conn state value) in
    change_effect view table change state
action_effect view conn (action.Redirect kind format status drop_query) state =
    let text = text_in view conn state format in
    Ends (redirect_verdict kind text status drop_query state.message) state
action_effect view conn (action.StrictMode on) state = Goes (record state { strict = on })
action_effect view conn rewrite state =
    edit_effect (edit_of (text_in view conn state) rewrite state.message) state

-- ---- rules

-- what follows an effect where rules are left
abbrev pub then_rules : {S : Type 0} → (State S → Effect S) → Effect S → Effect S
then_rules rest (Goes state) = rest state
then_rules rest effect = effect

-- the rules of `http-request`, from a state: each is judged in the state that those before it leave
abbrev pub rules_effect : {S : Type 0} → TableView S → Conn → Acls → List Rule → State S → Effect S
rules_effect view conn acls [] state = Goes state
rules_effect view conn acls (rule ∷ rules) state =
    if is_taken (in_state cond_holds view conn state acls) rule.unless rule.cond
    then then_rules (rules_effect view conn acls rules) (action_effect view conn rule.action state)
    else rules_effect view conn acls rules state

-- the verdict of an action, if it redirects
abbrev pub redirection : (List Part → List ℕ) → Parts → Action → Option Verdict
redirection text head (action.Redirect kind format status drop_query) =
    Some (redirect_verdict kind (text format) status drop_query head)
redirection text head _ = None

-- the verdict of the first redirect that is taken
abbrev pub redirects_verdict : (List (List Term) → Bool) → (List Part → List ℕ) → Parts
    → List Rule → Option Verdict
redirects_verdict holds text head rules =
    first_item (filter_map (λ rule. redirection text head rule.action)
    (filter (λ rule. is_taken holds rule.unless rule.cond) rules))

-- ---- backends

-- a byte that the name of a backend may have: none of the controls, no space
abbrev pub is_backend_byte : ℕ → Bool
is_backend_byte b = nat_lt 32 b && not (b == 127)

-- the backend that a text names, and the other one where it names none
abbrev pub named_backend : List ℕ → Option (List ℕ) → Option (List ℕ)
named_backend text fallback =
    if nat_lt 0 (length text) && list_all is_backend_byte text then Some text else fallback

-- The backend of the first rule of `use_backend` that is taken. Where its format makes no name, and
-- where no rule is taken, it is that of `default_backend`.
abbrev pub backend_of : (List (List Term) → Bool) → (List Part → List ℕ) → List BackendRule
    → Option (List ℕ) → Option (List ℕ)
backend_of holds text rules fallback =
    option_map_or (λ rule. named_backend (text rule.format) fallback)
    (find (λ rule. is_taken holds rule.unless rule.cond) rules) fallback

-- ---- requests

-- what is made of a request: its verdict, and the state after it
pub record Evaluation (S : Type 0) : Type 0 where
  pub verdict : Verdict
  pub state : State S

-- the state in which the rules of a request begin
abbrev pub start : {S : Type 0} → Parts → Scopes → S → State S
start head vars tables = record { message = head; vars = vars; tables = tables; strict = true }

-- the verdict after the rules of `http-request`, where they give none: that of a redirect, or that
-- the request passes to a backend
abbrev pub verdict_at : Context → List TableHead → List (List Entry) → Rules → Verdict
verdict_at context heads lists program =
    let holds = cond_holds context heads lists program.acls in
    let text = format_text context heads lists in
    unwrap_or (redirects_verdict holds text context.message program.redirects)
    (verdict.Pass (backend_of holds text program.backends program.fallback))

-- what rules of this effect make of a request, where `later` gives the verdict that they don't
abbrev pub after_rules : {S : Type 0} → (State S → Verdict) → Effect S → Evaluation S
after_rules later (Goes state) = record { verdict = later state; state = state }
after_rules later (Stops state) = record { verdict = later state; state = state }
after_rules later (Ends given state) = record { verdict = given; state = state }

-- What a program makes of a request from a state: the rules of `http-request`, then the redirects,
-- then the rules of `use_backend`.
abbrev pub evaluation : {S : Type 0} → TableView S → Conn → Rules → State S → Evaluation S
evaluation view conn program state =
    after_rules (λ after. in_state verdict_at view conn after program)
    (rules_effect view conn program.acls program.rules state)
