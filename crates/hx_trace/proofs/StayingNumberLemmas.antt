-- Rules change no number of a reference: what they add, remove and change are entries.
use Rattle.std.proofs.Common.{◌≡◌, ℕ, Bool, true, false, cond, List, [], ◌∷◌, map, refl, sym, ap, ◌∙◌}
use Rattle.std.specs.Prelude.{Option, None, Some, is_none}
use Rattle.hx_acl.specs.Holds.{Acls, cond_holds}
use Rattle.hx_ast.specs.declared.action.Action.{Action}
use Rattle.hx_ast.specs.declared.action.Action.TheVariants as action
use Rattle.hx_ast.specs.declared.statement.Rule.{Rule}
use Rattle.hx_core.specs.World.{refs_view}
use Rattle.hx_fetch.specs.declared.world.Conn.{Conn}
use Rattle.hx_refs.specs.Additions.{addition_fault, after_addition, with_pairs, Pair}
use Rattle.hx_refs.specs.Changes.{after_change_of_value, fault_at, value_fault, with_entries}
use Rattle.hx_refs.specs.References.{with_reference, Reference, References}
use Rattle.hx_refs.specs.TableChanges.{after_fit_change, after_table_change, is_key_of, unless_refused, with_pair}
use Rattle.hx_refs.specs.declared.fault.RefFault.{RefFault}
use Rattle.hx_rules.specs.Formats.{text_in}
use Rattle.hx_rules.specs.Programs.{Rules}
use Rattle.hx_rules.specs.Rewrites.{Edit, edit_of}
use Rattle.hx_rules.specs.State.{in_state, State}
use Rattle.hx_rules.specs.Verdicts.{action_effect, after_rules, edit_effect, evaluation, is_taken, rules_effect, then_rules, verdict_at, Effect, Ends, Goes, Stops}
use Rattle.hx_rules.specs.declared.verdict.Verdict.{Verdict}
use Rattle.hx_rules.specs.declared.verdict.Verdict.TheVariants as verdict
use Rattle.hx_sample.specs.Changes.{has_key, is_fit, with_value, without_chosen, ListChange, Addition, Removal, NewValue}
use Rattle.hx_trace.proofs.NumberLemmas.{ids_changed, same_numbers}
use Rattle.hx_trace.specs.Statements.{NumberedRules}
use Rattle.hx_trace.specs.Why.{cause_of, explained, head_numbers, told_why, why_text}

-- ---- changes of lists

-- references have the numbers of others
abbrev HasNumbersOf : References → References → Type 0
HasNumbersOf refs new = head_numbers new ≡ head_numbers refs

changed : (refs : References) (at : ℕ) (change : Reference → Reference) → ((x : Reference) → (change x).id ≡ x.id)
    → HasNumbersOf refs (with_reference at change refs)
changed refs at change same =
    same_numbers (with_reference at change refs) refs refl (ids_changed change same at refs.references)

unless : (refs new : References) (fault : Option RefFault) → HasNumbersOf refs new → HasNumbersOf refs (unless_refused fault new refs)
unless refs new None is = is
unless refs new (Some fault) is = refl

either : (refs first second : References) (test : Bool) → HasNumbersOf refs first → HasNumbersOf refs second
    → HasNumbersOf refs (cond test first second)
either refs first second true one two = one
either refs first second false one two = two

pair_added : (refs : References) (at : ℕ) (pair : Pair) → HasNumbersOf refs (with_pair refs at pair)
pair_added refs at pair =
    unless refs (after_addition refs at None (pair ∷ [])) (addition_fault refs at None (pair ∷ []))
    (changed refs at (with_pairs None (pair ∷ [])) (λ x. refl))

abbrev pair_of : List ℕ → List ℕ → Pair
pair_of key text = record { key = key; value = text }

fit_changed : (refs : References) (at : ℕ) (asked : ListChange) → HasNumbersOf refs (after_fit_change refs at asked)
fit_changed refs at (Addition key) =
    either refs refs (with_pair refs at (pair_of key [])) (is_key_of refs at key) refl (pair_added refs at (pair_of key []))
fit_changed refs at (Removal key) = changed refs at (with_entries None (without_chosen (has_key key))) (λ x. refl)
fit_changed refs at (NewValue key text) =
    either refs
    (unless_refused (fault_at refs at (value_fault None (has_key key) text)) (after_change_of_value refs at None (has_key key) text) refs)
    (with_pair refs at (pair_of key text)) (is_key_of refs at key)
    (unless refs (after_change_of_value refs at None (has_key key) text) (fault_at refs at (value_fault None (has_key key) text))
    (changed refs at (with_entries None (map (with_value (has_key key) text))) (λ x. refl)))
    (pair_added refs at (pair_of key text))

table_changed : (refs : References) (at : ℕ) (asked : ListChange) → HasNumbersOf refs (after_table_change refs at asked)
table_changed refs at asked =
    either refs (after_fit_change refs at asked) refs (is_fit asked) (fit_changed refs at asked) refl

-- ---- rules

abbrev tables_of : Effect References → References
tables_of (Goes state) = state.tables
tables_of (Stops state) = state.tables
tables_of (Ends verdict state) = state.tables

abbrev Keeps : References → Effect References → Type 0
Keeps refs effect = HasNumbersOf refs (tables_of effect)

edit_keeps : (edit : Edit) (state : State References) → Keeps state.tables (edit_effect edit state)
edit_keeps edit state = go (is_none edit.fault) state.strict
  where
    go : (fine strict : Bool) → Keeps state.tables
        (cond fine (Goes (record state { message = edit.head })) (cond strict (Ends verdict.Error state) (Goes state)))
    go true strict = refl
    go false true = refl
    go false false = refl

action_keeps : (conn : Conn) (asked : Action) (state : State References)
    → Keeps state.tables (action_effect refs_view conn asked state)
action_keeps conn action.Allow state = refl
action_keeps conn (action.Deny status) state = refl
action_keeps conn (action.SetVar name expr) state = refl
action_keeps conn (action.UnsetVar name) state = refl
action_keeps conn (action.AddAcl table key) state =
    table_changed state.tables table (Addition (text_in refs_view conn state key))
action_keeps conn (action.DelAcl table key) state =
    table_changed state.tables table (Removal (text_in refs_view conn state key))
action_keeps conn (action.DelMap table key) state =
    table_changed state.tables table (Removal (text_in refs_view conn state key))
action_keeps conn (action.SetMap table key text) state =
    table_changed state.tables table (NewValue (text_in refs_view conn state key) (text_in refs_view conn state text))
action_keeps conn (action.Redirect kind format status drop_query) state = refl
action_keeps conn (action.StrictMode on) state = refl
action_keeps conn rewrite state = edit_keeps (edit_of (text_in refs_view conn state) rewrite state.message) state

then_keeps : (refs : References) (rest : State References → Effect References) (effect : Effect References)
    → ((state : State References) → Keeps state.tables (rest state)) → Keeps refs effect → Keeps refs (then_rules rest effect)
then_keeps refs rest (Goes state) each is = each state ∙ is
then_keeps refs rest (Stops state) each is = is
then_keeps refs rest (Ends verdict state) each is = is

if_keeps : (refs : References) (test : Bool) (first second : Effect References) → Keeps refs first → Keeps refs second
    → Keeps refs (cond test first second)
if_keeps refs true first second one two = one
if_keeps refs false first second one two = two

rules_keep : (conn : Conn) (acls : Acls) (rules : List Rule) (state : State References)
    → Keeps state.tables (rules_effect refs_view conn acls rules state)
rules_keep conn acls [] state = refl
rules_keep conn acls (rule ∷ rules) state =
    let rest = rules_effect refs_view conn acls rules in
    if_keeps state.tables (is_taken (in_state cond_holds refs_view conn state acls) rule.unless rule.cond)
    (then_rules rest (action_effect refs_view conn rule.action state)) (rest state)
    (then_keeps state.tables rest (action_effect refs_view conn rule.action state)
    (λ next. rules_keep conn acls rules next) (action_keeps conn rule.action state))
    (rules_keep conn acls rules state)

after_keeps : (refs : References) (later : State References → Verdict) (effect : Effect References) → Keeps refs effect
    → HasNumbersOf refs (after_rules later effect).state.tables
after_keeps refs later (Goes state) is = is
after_keeps refs later (Stops state) is = is
after_keeps refs later (Ends given state) is = is

-- a request changes no number
pub numbers_stay : (conn : Conn) (program : Rules) (state : State References)
    → head_numbers (evaluation refs_view conn program state).state.tables ≡ head_numbers state.tables
numbers_stay conn program state =
    after_keeps state.tables (λ after. in_state verdict_at refs_view conn after program)
    (rules_effect refs_view conn program.acls program.rules state) (rules_keep conn program.acls program.rules state)

-- what is told of it is what is explained
pub told_is_explained : (conn : Conn) (given : NumberedRules) (state : State References)
    → given.numbers ≡ head_numbers state.tables
    → explained.judged given.program conn state
    ≡ why_text (told_why given.numbers (cause_of refs_view conn given.program state))
told_is_explained conn given state same =
    ap (λ (ns : List ℕ). why_text (told_why ns (cause_of refs_view conn given.program state)))
    (numbers_stay conn given.program state ∙ sym same)
