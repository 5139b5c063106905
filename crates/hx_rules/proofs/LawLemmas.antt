-- What is made of a request where a rule that is reached changes nothing, or ends the rules.
use Rattle.std.proofs.Common.{◌≡◌, ℕ, Bool, true, false, List, [], ◌∷◌, ◌++◌, Option, None, Some, refl, ap, sym, subst, ◌∙◌, inl, inr}
use Rattle.std.specs.Prelude.{filter, is_some, not, if◌then◌else◌}
use Rattle.std.specs.Str.{str_to_ascii_lowercase}
use Rattle.std.specs.Option.{is_none}
use Rattle.std.proofs.lemmas.Bool.{cases_Bool, false≢true}
use Rattle.std.proofs.lemmas.List.{append-nil}
use Rattle.std.proofs.lemmas.List.Elements.{filter-append}
use Rattle.std.proofs.lemmas.Slice.Eq.{bytes_eq-Decides}
use Rattle.hx_ast.specs.declared.action.Action.{Action}
use Rattle.hx_ast.specs.declared.action.Action.TheVariants as action
use Rattle.hx_ast.specs.declared.action.Part.{Part}
use Rattle.hx_ast.specs.declared.statement.Rule.{Rule}
use Rattle.hx_http.specs.declared.fault.EditFault.{EditFault}
use Rattle.hx_http.specs.Edits.{has_name, set_header_fault, with_only_header}
use Rattle.hx_http.specs.Parts.{Parts}
use Rattle.hx_acl.specs.Holds.{Acls}
use Rattle.hx_fetch.specs.declared.world.Conn.{Conn}
use Rattle.hx_rules.specs.declared.verdict.Verdict.{Verdict}
use Rattle.hx_rules.specs.declared.verdict.Verdict.TheVariants as verdict
use Rattle.hx_rules.specs.Failures.{is_taken_in}
use Rattle.hx_rules.specs.Formats.{text_in}
use Rattle.hx_rules.specs.Programs.{Rules}
use Rattle.hx_rules.specs.Reached.{IsReached, is_refused, with_rules}
use Rattle.hx_rules.specs.Rewrites.{Edit, edit_of, named_fault}
use Rattle.hx_rules.specs.Rewriting.{is_rewrite}
use Rattle.hx_rules.specs.State.{in_state, State, TableView}
use Rattle.hx_rules.specs.EffectView.{rule_effect}
use Rattle.hx_rules.specs.Verdicts.{action_effect, after_rules, edit_effect, Effect, Ends, evaluation, Goes, rules_effect, Stops, then_rules, verdict_at}
use Rattle.hx_rules.proofs.RuleLemmas.{effect_first, effect_joined}

-- ---- from a rule that is reached on

-- what all rules make of a request is what this one makes of the state, and then those after it
from_rule : {S : Type 0} {view : TableView S} {conn : Conn} {program : Rules} {origin state : State S} {before : List Rule} {rule : Rule} {after : List Rule} → IsReached view conn program origin state before rule after
    → rules_effect view conn program.acls program.rules origin ≡ then_rules (rules_effect view conn program.acls after) (rule_effect view conn program.acls rule state)
from_rule {S} {view} {conn} {program} {origin} {state} {before} {rule} {after} at =
    ap (λ (rules : List Rule). rules_effect view conn program.acls rules origin) at.rules
    ∙ effect_joined view conn program.acls before (rule ∷ after) origin
    ∙ ap (then_rules (rules_effect view conn program.acls (rule ∷ after))) at.effect
    ∙ effect_first view conn program.acls rule after state

-- a rule that changes nothing might as well not be there
pub passed_over : {S : Type 0} {view : TableView S} {conn : Conn} {program : Rules} {origin state : State S} {before : List Rule} {rule : Rule} {after : List Rule} → IsReached view conn program origin state before rule after
    → rule_effect view conn program.acls rule state ≡ Goes state
    → evaluation view conn program origin ≡ evaluation view conn (with_rules (before ++ after) program) origin
passed_over {S} {view} {conn} {program} {origin} {state} {before} {rule} {after} at goes =
    ap (after_rules (λ last. in_state verdict_at view conn last program))
    (from_rule at
    ∙ ap (then_rules (rules_effect view conn program.acls after)) goes
    ∙ sym (effect_joined view conn program.acls before after origin
    ∙ ap (then_rules (rules_effect view conn program.acls after)) at.effect))

-- a rule that gives the verdict is the last
pub ends_there : {S : Type 0} {view : TableView S} {conn : Conn} {program : Rules} {origin state : State S} {before : List Rule} {rule : Rule} {after : List Rule} (given : Verdict) (last : State S) → IsReached view conn program origin state before rule after
    → rule_effect view conn program.acls rule state ≡ Ends given last
    → evaluation view conn program origin ≡ record { verdict = given; state = last }
ends_there {S} {view} {conn} {program} {origin} {state} {before} {rule} {after} given last at ends =
    ap (after_rules (λ last. in_state verdict_at view conn last program))
    (from_rule at ∙ ap (then_rules (rules_effect view conn program.acls after)) ends)

-- ---- whether a rule is taken

if_not_taken : {S : Type 0} (taken : Bool) (done other : Effect S) → taken ≡ false → (if taken then done else other) ≡ other
if_not_taken true done other none = absurd (false≢true (sym none))
if_not_taken false done other none = refl

if_taken : {S : Type 0} (taken : Bool) (done other : Effect S) → taken ≡ true → (if taken then done else other) ≡ done
if_taken true done other is = refl
if_taken false done other is = absurd (false≢true is)

pub not_taken : {S : Type 0} (view : TableView S) (conn : Conn) (acls : Acls) (rule : Rule) (state : State S) → is_taken_in view conn acls state rule.unless rule.cond ≡ false
    → rule_effect view conn acls rule state ≡ Goes state
not_taken view conn acls rule state none =
    if_not_taken (is_taken_in view conn acls state rule.unless rule.cond) (action_effect view conn rule.action state) (Goes state) none

pub taken : {S : Type 0} (view : TableView S) (conn : Conn) (acls : Acls) (rule : Rule) (state : State S) → is_taken_in view conn acls state rule.unless rule.cond ≡ true
    → rule_effect view conn acls rule state ≡ action_effect view conn rule.action state
taken view conn acls rule state is =
    if_taken (is_taken_in view conn acls state rule.unless rule.cond) (action_effect view conn rule.action state) (Goes state) is

then_no_rule : {S : Type 0} (view : TableView S) (conn : Conn) (acls : Acls) (effect : Effect S) → then_rules (rules_effect view conn acls []) effect ≡ effect
then_no_rule view conn acls (Goes state) = refl
then_no_rule view conn acls (Stops state) = refl
then_no_rule view conn acls (Ends given state) = refl

-- a list of one rule
pub one_rule : {S : Type 0} (view : TableView S) (conn : Conn) (acls : Acls) (rule : Rule) (state : State S) → rules_effect view conn acls (rule ∷ []) state ≡ rule_effect view conn acls rule state
one_rule view conn acls rule state =
    effect_first view conn acls rule [] state ∙ then_no_rule view conn acls (rule_effect view conn acls rule state)

-- ---- rewrites that are refused

edit_refused : {S : Type 0} (fault : Option EditFault) (done other : Effect S) → is_some fault ≡ true → (if is_none fault then done else other) ≡ other
edit_refused None done other refused = absurd (false≢true refused)
edit_refused (Some fault) done other refused = refl

-- what comes after a rewrite that is refused
abbrev refusal : {S : Type 0} → State S → Effect S
refusal state = if state.strict then Ends verdict.Error state else Goes state

refused_edit : {S : Type 0} (edit : Edit) (state : State S) → is_some edit.fault ≡ true → edit_effect edit state ≡ refusal state
refused_edit edit state refused =
    edit_refused edit.fault (Goes (record state { message = edit.head })) (refusal state) refused

action_refused : {S : Type 0} (view : TableView S) (conn : Conn) (does : Action) (state : State S) → is_refused view conn does state ≡ true
    → action_effect view conn does state ≡ refusal state
action_refused view conn action.Allow state refused = absurd (false≢true refused)
action_refused view conn (action.Deny status) state refused = absurd (false≢true refused)
action_refused view conn (action.SetVar name expr) state refused = absurd (false≢true refused)
action_refused view conn (action.UnsetVar name) state refused = absurd (false≢true refused)
action_refused view conn (action.AddAcl table key) state refused = absurd (false≢true refused)
action_refused view conn (action.DelAcl table key) state refused = absurd (false≢true refused)
action_refused view conn (action.DelMap table key) state refused = absurd (false≢true refused)
action_refused view conn (action.SetMap table key value) state refused = absurd (false≢true refused)
action_refused view conn (action.Redirect kind format status drop_query) state refused = absurd (false≢true refused)
action_refused view conn (action.StrictMode on) state refused = absurd (false≢true refused)
action_refused view conn rewrite state refused =
    refused_edit (edit_of (text_in view conn state) rewrite state.message) state refused

-- in strict mode it gives an error
pub refused_strictly : {S : Type 0} (view : TableView S) (conn : Conn) (acls : Acls) (rule : Rule) (state : State S) → is_taken_in view conn acls state rule.unless rule.cond ≡ true
    → is_refused view conn rule.action state ≡ true → state.strict ≡ true
    → rule_effect view conn acls rule state ≡ Ends verdict.Error state
refused_strictly view conn acls rule state is refused strict =
    taken view conn acls rule state is
    ∙ action_refused view conn rule.action state refused
    ∙ if_taken state.strict (Ends verdict.Error state) (Goes state) strict

-- in the other mode it changes nothing
pub refused_laxly : {S : Type 0} (view : TableView S) (conn : Conn) (acls : Acls) (rule : Rule) (state : State S) → is_taken_in view conn acls state rule.unless rule.cond ≡ true
    → is_refused view conn rule.action state ≡ true → state.strict ≡ false
    → rule_effect view conn acls rule state ≡ Goes state
refused_laxly view conn acls rule state is refused lax =
    taken view conn acls rule state is
    ∙ action_refused view conn rule.action state refused
    ∙ if_not_taken state.strict (Ends verdict.Error state) (Goes state) lax

-- ---- a rewrite that gives the verdict was refused

fault_ended : {S : Type 0} (fault : Option EditFault) (strict : Bool) (next state last : State S) (given : Verdict)
    → (if is_none fault then Goes next else if strict then Ends verdict.Error state else Goes state) ≡ Ends given last
    → (is_some fault ≡ true) × (strict ≡ true) × (given ≡ verdict.Error) × (last ≡ state)
fault_ended None strict next state last given ends = cc
fault_ended (Some fault) true next state last given ends =
    let verdict_is : given ≡ verdict.Error = cc in
    let state_is : last ≡ state = cc in
    (refl, refl, verdict_is, state_is)
fault_ended (Some fault) false next state last given ends = cc

ended_edit : {S : Type 0} (edit : Edit) (state last : State S) (given : Verdict) → edit_effect edit state ≡ Ends given last
    → (is_some edit.fault ≡ true) × (state.strict ≡ true) × (given ≡ verdict.Error) × (last ≡ state)
ended_edit edit state last given ends =
    fault_ended edit.fault state.strict (record state { message = edit.head }) state last given ends

pub ended_rewrite : {S : Type 0} (view : TableView S) (conn : Conn) (does : Action) (state last : State S) (given : Verdict) → is_rewrite does ≡ true → action_effect view conn does state ≡ Ends given last
    → (is_refused view conn does state ≡ true) × (state.strict ≡ true) × (given ≡ verdict.Error) × (last ≡ state)
ended_rewrite view conn action.Allow state last given is ends = absurd (false≢true is)
ended_rewrite view conn (action.Deny status) state last given is ends = absurd (false≢true is)
ended_rewrite view conn (action.SetVar name expr) state last given is ends = absurd (false≢true is)
ended_rewrite view conn (action.UnsetVar name) state last given is ends = absurd (false≢true is)
ended_rewrite view conn (action.AddAcl table key) state last given is ends = absurd (false≢true is)
ended_rewrite view conn (action.DelAcl table key) state last given is ends = absurd (false≢true is)
ended_rewrite view conn (action.DelMap table key) state last given is ends = absurd (false≢true is)
ended_rewrite view conn (action.SetMap table key value) state last given is ends = absurd (false≢true is)
ended_rewrite view conn (action.Redirect kind format status drop_query) state last given is ends = absurd (false≢true is)
ended_rewrite view conn (action.StrictMode on) state last given is ends = absurd (false≢true is)
ended_rewrite view conn rewrite state last given is ends =
    ended_edit (edit_of (text_in view conn state) rewrite state.message) state last given ends

-- ---- `set-header`

edit_passes : {S : Type 0} (fault : Option EditFault) (done other : Effect S) → is_some fault ≡ false → (if is_none fault then done else other) ≡ done
edit_passes None done other passes = refl
edit_passes (Some fault) done other passes = absurd (false≢true (sym passes))

pub header_set : {S : Type 0} (view : TableView S) (conn : Conn) (acls : Acls) (rule : Rule) (name : List ℕ) (format : List Part) (state : State S) → rule.action ≡ action.SetHeader name format → is_taken_in view conn acls state rule.unless rule.cond ≡ true → is_refused view conn rule.action state ≡ false
    → rules_effect view conn acls (rule ∷ []) state ≡ Goes (record state { message = with_only_header name (text_in view conn state format) state.message })
header_set {S} view conn acls rule name format state is here passes =
    let text = text_in view conn state format in
    let next : State S = record state { message = with_only_header name text state.message } in
    let Sets : Action → Type 0 = λ does. is_refused view conn does state ≡ false → action_effect view conn does state ≡ Goes next in
    one_rule view conn acls rule state
    ∙ taken view conn acls rule state here
    ∙ subst Sets (sym is)
    (edit_passes (named_fault name (set_header_fault name text state.message)) (Goes next) (refusal state)) passes

named_itself : (name value : List ℕ) → has_name name (name, value) ≡ true
named_itself name value =
    (bytes_eq-Decides (str_to_ascii_lowercase name) (str_to_ascii_lowercase name)).1 refl

-- what passes a test is none of what doesn't
none_of_others : {X : Type 0} (test : X → Bool) (xs : List X) → filter test (filter (λ x. not (test x)) xs) ≡ []
none_of_others test [] = refl
none_of_others test (x ∷ xs) =
    elim (cases_Bool (test x)) [
      | inl is ↦ rw is (none_of_others test xs)
      | inr other ↦ rw (other, other) (none_of_others test xs)
    ]

all_of_others : {X : Type 0} (test : X → Bool) (xs : List X) → filter test (filter test xs) ≡ filter test xs
all_of_others test [] = refl
all_of_others test (x ∷ xs) =
    elim (cases_Bool (test x)) [
      | inl is ↦ rw (is, is) (ap (λ rest. x ∷ rest) (all_of_others test xs))
      | inr other ↦ rw other (all_of_others test xs)
    ]

if_passes : {X : Type 0} (test : X → Bool) (x : X) → test x ≡ true → filter test (x ∷ []) ≡ x ∷ []
if_passes test x is = rw is refl

if_fails : {X : Type 0} (test : X → Bool) (x : X) → test x ≡ false → filter test (x ∷ []) ≡ []
if_fails test x other = rw other refl

-- after `set-header` there is one line of the name
pub one_of_name : (name value : List ℕ) (head : Parts) → filter (has_name name) (with_only_header name value head).headers ≡ (name, value) ∷ []
one_of_name name value head =
    filter-append (has_name name) (filter (λ line. not (has_name name line)) head.headers) ((name, value) ∷ [])
    ∙ ap (λ (first : List (List ℕ × List ℕ)). first ++ filter (has_name name) ((name, value) ∷ [])) (none_of_others (has_name name) head.headers)
    ∙ if_passes (has_name name) (name, value) (named_itself name value)

-- and the others are as before
pub others_stay : (name value : List ℕ) (head : Parts) → filter (λ line. not (has_name name line)) (with_only_header name value head).headers ≡ filter (λ line. not (has_name name line)) head.headers
others_stay name value head =
    filter-append (λ line. not (has_name name line)) (filter (λ line. not (has_name name line)) head.headers) ((name, value) ∷ [])
    ∙ ap (λ (last : List (List ℕ × List ℕ)). filter (λ line. not (has_name name line)) (filter (λ line. not (has_name name line)) head.headers) ++ last)
    (if_fails (λ line. not (has_name name line)) (name, value) (ap not (named_itself name value)))
    ∙ append-nil (filter (λ line. not (has_name name line)) (filter (λ line. not (has_name name line)) head.headers))
    ∙ all_of_others (λ line. not (has_name name line)) head.headers
