-- Which statement decides what is made of a request, and when it is taken (HAProxy configuration
-- manual 2.4, section 4.2, `http-request`, `redirect`, `use_backend`, `default_backend`).
use Rattle.std.specs.Prelude.{ℕ, suc, ◌&&◌, nat_lt, Bool, List, [], ◌∷◌, length, Option, None, Some, is_some, option_and_then, option_map, slice_get, if◌then◌else◌}
use Rattle.std.specs.List.{list_all}
use Rattle.std.specs.Option.{option_map_or, unwrap_or}
use Rattle.hx_acl.specs.Holds.{Acls, cond_holds}
use Rattle.hx_ast.specs.declared.action.Part.{Part}
use Rattle.hx_ast.specs.declared.statement.Rule.{Rule}
use Rattle.hx_ast.specs.declared.statement.Term.{Term}
use Rattle.hx_fetch.specs.World.{Context}
use Rattle.hx_fetch.specs.declared.world.Conn.{Conn}
use Rattle.hx_http.specs.Parts.{Parts}
use Rattle.hx_sample.specs.Find.{Entry}
use Rattle.hx_sample.specs.Tables.{TableHead}
use Rattle.hx_rules.specs.declared.deciding.Deciding.{Deciding}
use Rattle.hx_rules.specs.declared.deciding.Deciding.TheVariants as by
use Rattle.hx_rules.specs.Formats.{format_text}
use Rattle.hx_rules.specs.Programs.{BackendRule, Rules}
use Rattle.hx_rules.specs.State.{in_state, State, TableView}
use Rattle.hx_rules.specs.Verdicts.{action_effect, Effect, Ends, evaluation, Goes, is_backend_byte, is_taken, redirection, Stops}

-- the first item that passes, with its position, where the first of all has this one
abbrev pub first_from : {A : Type 0} → (A → Bool) → ℕ → List A → Option (ℕ × A)
first_from passes position [] = None
first_from passes position (x ∷ xs) =
    if passes x then Some (position, x) else first_from passes (suc position) xs

-- ---- rules of `http-request`

-- the position of the rule that ends the rules with a verdict, where this is that of a rule, and
-- what it does
abbrev pub ending_after : {S : Type 0} → (State S → Option ℕ) → ℕ → Effect S → Option ℕ
ending_after rest position (Goes state) = rest state
ending_after rest position (Stops state) = None
ending_after rest position (Ends given state) = Some position

-- The position of the rule that ends the rules with a verdict, which is that of a denial, of a
-- redirect or of an error, where the first has this position. None where they give no verdict.
abbrev pub ending_rule
    : {S : Type 0} → TableView S → Conn → Acls → ℕ → List Rule → State S → Option ℕ
ending_rule view conn acls position [] state = None
ending_rule view conn acls position (rule ∷ rules) state =
    if is_taken (in_state cond_holds view conn state acls) rule.unless rule.cond
    then ending_after (ending_rule view conn acls (suc position) rules) position
    (action_effect view conn rule.action state)
    else ending_rule view conn acls (suc position) rules state

-- ---- redirects and backends

-- the redirect that gives the verdict: the first that is taken
abbrev pub redirect_deciding : (List (List Term) → Bool) → (List Part → List ℕ) → Parts
    → List Rule → Option Deciding
redirect_deciding holds text head rules =
    option_map (λ first. by.Redirect first.0)
    (first_from
    (λ rule.
    is_some (redirection text head rule.action) && is_taken holds rule.unless rule.cond) 0 rules)

-- whether a text is the name of a backend
abbrev pub names_backend : List ℕ → Bool
names_backend text = nat_lt 0 (length text) && list_all is_backend_byte text

-- `default_backend`, where there is one
abbrev pub fallback_deciding : Option (List ℕ) → Deciding
fallback_deciding fallback = if is_some fallback then by.Fallback else by.Nothing

-- the statement that gives the backend, where this is the rule of `use_backend` that is taken, with
-- its position: the rule, if its format makes a name
abbrev pub deciding_among : (List Part → List ℕ) → Option (List ℕ) → Option (ℕ × BackendRule)
    → Deciding
deciding_among text fallback None = fallback_deciding fallback
deciding_among text fallback (Some first) =
    if names_backend (text first.1.format) then by.Backend first.0 else fallback_deciding fallback

-- the statement that gives the backend
abbrev pub backend_deciding : (List (List Term) → Bool) → (List Part → List ℕ) → List BackendRule
    → Option (List ℕ) → Deciding
backend_deciding holds text rules fallback =
    deciding_among text fallback
    (first_from (λ rule. is_taken holds rule.unless rule.cond) 0 rules)

-- ---- requests

-- the statement that decides after the rules of `http-request`, where they give no verdict
abbrev pub deciding_at : Context → List TableHead → List (List Entry) → Rules → Deciding
deciding_at context heads lists program =
    let holds = cond_holds context heads lists program.acls in
    let text = format_text context heads lists in
    unwrap_or (redirect_deciding holds text context.message program.redirects)
    (backend_deciding holds text program.backends program.fallback)

-- the statement that decides, where this is the rule of `http-request` that ends the rules, and the
-- state that they leave
abbrev pub deciding_in : {S : Type 0} → TableView S → Conn → Rules → Option ℕ → State S → Deciding
deciding_in view conn program ending state =
    option_map_or by.Rule ending (in_state deciding_at view conn state program)

-- The statement that decides what a program makes of a request from a state: the rule of
-- `http-request` that ends the evaluation with a denial, a redirect or an error; or else the
-- redirect that gives the verdict; or else the rule of `use_backend`, or `default_backend`, that
-- gives the backend; and nothing where there is no backend.
abbrev pub deciding_of : {S : Type 0} → TableView S → Conn → Rules → State S → Deciding
deciding_of view conn program state =
    deciding_in view conn program (ending_rule view conn program.acls 0 program.rules state)
    (evaluation view conn program state).state

-- ---- conditions

-- whether a rule is taken where its condition doesn't hold, and the condition, if it has one
abbrev pub rule_condition : Rule → Option (Bool × List (List Term))
rule_condition rule = option_map (λ cond. (rule.unless, cond)) rule.cond

abbrev pub backend_condition : BackendRule → Option (Bool × List (List Term))
backend_condition rule = option_map (λ cond. (rule.unless, cond)) rule.cond

-- The same of the statement of a program that this names. None where it has no condition, or no
-- statement stands there.
abbrev pub condition_of : Rules → Deciding → Option (Bool × List (List Term))
condition_of program (by.Rule position) =
    option_and_then rule_condition (slice_get program.rules position)
condition_of program (by.Redirect position) =
    option_and_then rule_condition (slice_get program.redirects position)
condition_of program (by.Backend position) =
    option_and_then backend_condition (slice_get program.backends position)
condition_of program _ = None

-- ---- lines

-- the number of the line of the statement of a program that this names, or 0 where none stands
-- there, and where nothing decides
abbrev pub line_of : Rules → Deciding → ℕ
line_of program (by.Rule position) =
    option_map_or (λ rule. rule.line) (slice_get program.rules position) 0
line_of program (by.Redirect position) =
    option_map_or (λ rule. rule.line) (slice_get program.redirects position) 0
line_of program (by.Backend position) =
    option_map_or (λ rule. rule.line) (slice_get program.backends position) 0
line_of program by.Fallback = program.fallback_line
line_of program by.Nothing = 0
