-- Rules, and a version that isn't searched: they decide and change the same as if nothing was added
-- to it.
use Rattle.std.proofs.Common.{◌≡◌, ℕ, Bool, true, false, cond, List, [], ◌∷◌, map, refl, ap, sym, subst, ◌∙◌}
use Rattle.std.specs.Prelude.{Option, None, Some, is_none}
use Rattle.std.specs.List.{list_any}
use Rattle.std.specs.Option.{option_map_or}
use Rattle.hx_acl.specs.Holds.{Acls, cond_holds}
use Rattle.hx_ast.specs.declared.action.Action.{Action}
use Rattle.hx_ast.specs.declared.action.Action.TheVariants as action
use Rattle.hx_ast.specs.declared.action.Part.{Part}
use Rattle.hx_ast.specs.declared.expr.Expr.{Expr}
use Rattle.hx_ast.specs.declared.statement.Rule.{Rule}
use Rattle.hx_ast.specs.declared.statement.Term.{Term}
use Rattle.hx_expr.specs.Values.{expr_value}
use Rattle.hx_fetch.specs.World.{Context}
use Rattle.hx_fetch.specs.declared.world.Conn.{Conn}
use Rattle.hx_sample.specs.Changes.{has_key, is_fit, with_value, without_chosen, ListChange, Addition, Removal, NewValue}
use Rattle.hx_sample.specs.Find.{Entry}
use Rattle.hx_sample.specs.Tables.{TableHead}
use Rattle.hx_sample.specs.Vars.{with_var}
use Rattle.hx_sample.specs.declared.sample.Value.{Value}
use Rattle.hx_refs.specs.Additions.{addition_fault, after_addition, with_pairs, Pair}
use Rattle.hx_refs.specs.Changes.{after_change_of_value, fault_at, value_fault, with_entries}
use Rattle.hx_refs.specs.Numbers.{IsNotSearched}
use Rattle.hx_refs.specs.References.{with_reference, Reference, References}
use Rattle.hx_refs.specs.TableChanges.{after_fit_change, after_table_change, is_key_of, unless_refused, with_pair}
use Rattle.hx_refs.specs.declared.fault.RefFault.{RefFault}
use Rattle.hx_rules.specs.Formats.{format_text, text_in}
use Rattle.hx_rules.specs.Locations.{redirect_verdict}
use Rattle.hx_rules.specs.Programs.{Rules}
use Rattle.hx_rules.specs.Rewrites.{Edit, edit_of}
use Rattle.hx_rules.specs.State.{in_state, State}
use Rattle.hx_rules.specs.Verdicts.{action_effect, after_rules, change_effect, edit_effect, evaluation, is_taken, rules_effect, then_rules, verdict_at, Effect, Ends, Evaluation, Goes, Stops}
use Rattle.hx_rules.specs.declared.verdict.Verdict.{Verdict}
use Rattle.hx_rules.specs.declared.verdict.Verdict.TheVariants as verdict
use Rattle.hx_cli.specs.Unseen.{with_empty_version}
use Rattle.hx_cli.proofs.UnseenCommandLemmas.{addition_fault_alike, addition_is_along, entries_alike, entries_is_along, value_fault_alike}
use Rattle.hx_cli.proofs.UnseenReferenceLemmas.{changes_alike, follows_change, searched_alike, stays, Follows, IsAlong}
use Rattle.hx_core.specs.World.{refs_view}

-- ---- changes of lists

-- what a change makes of the references as if nothing was added to the version
record RefsAlong (r v : ℕ) (refs new along : References) : Type 0 where
  same : along ≡ with_empty_version r v new
  follows : Follows r v refs new

refs_stay : (r v : ℕ) (refs : References) → IsNotSearched refs r v → RefsAlong r v refs refs (with_empty_version r v refs)
refs_stay r v refs apart = record { same = refl; follows = stays refs r v apart }

changed_along : (r v : ℕ) (refs : References) (at : ℕ) (change : Reference → Reference) → IsNotSearched refs r v
    → IsAlong r v refs at change
    → RefsAlong r v refs (with_reference at change refs) (with_reference at change (with_empty_version r v refs))
changed_along r v refs at change apart along =
    record { same = changes_alike refs r v at change along; follows = follows_change refs r v at change apart along }

unless_along : (r v : ℕ) (refs new along : References) (fault other : Option RefFault) → IsNotSearched refs r v → other ≡ fault
    → RefsAlong r v refs new along
    → RefsAlong r v refs (unless_refused fault new refs) (unless_refused other along (with_empty_version r v refs))
unless_along r v refs new along fault other apart same goes =
    subst (λ (o : Option RefFault). RefsAlong r v refs (unless_refused fault new refs) (unless_refused o along (with_empty_version r v refs)))
    (sym same) (go fault)
  where
    go : (f : Option RefFault) → RefsAlong r v refs (unless_refused f new refs) (unless_refused f along (with_empty_version r v refs))
    go None = goes
    go (Some f) = refs_stay r v refs apart

either_along : (r v : ℕ) (refs : References) (test other : Bool) (yes' no' yes_along no_along : References) → other ≡ test
    → RefsAlong r v refs yes' yes_along → RefsAlong r v refs no' no_along
    → RefsAlong r v refs (cond test yes' no') (cond other yes_along no_along)
either_along r v refs test other yes' no' yes_along no_along same first second =
    subst (λ (o : Bool). RefsAlong r v refs (cond test yes' no') (cond o yes_along no_along)) (sym same) (go test)
  where
    go : (b : Bool) → RefsAlong r v refs (cond b yes' no') (cond b yes_along no_along)
    go true = first
    go false = second

pair_along : (r v : ℕ) (refs : References) (at : ℕ) (pair : Pair) → IsNotSearched refs r v
    → RefsAlong r v refs (with_pair refs at pair) (with_pair (with_empty_version r v refs) at pair)
pair_along r v refs at pair apart =
    unless_along r v refs (after_addition refs at None (pair ∷ [])) (after_addition (with_empty_version r v refs) at None (pair ∷ []))
    (addition_fault refs at None (pair ∷ [])) (addition_fault (with_empty_version r v refs) at None (pair ∷ [])) apart
    (addition_fault_alike r v refs at None (pair ∷ []) apart (λ here. refl))
    (changed_along r v refs at (with_pairs None (pair ∷ [])) apart
    (addition_is_along r v refs at None (pair ∷ []) apart (λ here. refl)))

key_alike : (r v : ℕ) (refs : References) (at : ℕ) (key : List ℕ) → IsNotSearched refs r v
    → is_key_of (with_empty_version r v refs) at key ≡ is_key_of refs at key
key_alike r v refs at key apart =
    ap (λ (entries : List Entry). list_any (has_key key) entries) (entries_alike r v refs at None apart (λ here. refl))

abbrev pair_of : List ℕ → List ℕ → Pair
pair_of key text = record { key = key; value = text }

fit_along : (r v : ℕ) (refs : References) (at : ℕ) (asked : ListChange) → IsNotSearched refs r v
    → RefsAlong r v refs (after_fit_change refs at asked) (after_fit_change (with_empty_version r v refs) at asked)
fit_along r v refs at (Addition key) apart =
    either_along r v refs (is_key_of refs at key) (is_key_of (with_empty_version r v refs) at key) refs (with_pair refs at (pair_of key []))
    (with_empty_version r v refs) (with_pair (with_empty_version r v refs) at (pair_of key [])) (key_alike r v refs at key apart)
    (refs_stay r v refs apart) (pair_along r v refs at (pair_of key []) apart)
fit_along r v refs at (Removal key) apart =
    changed_along r v refs at (with_entries None (without_chosen (has_key key))) apart
    (entries_is_along r v refs at None (without_chosen (has_key key)) apart (λ here. refl))
fit_along r v refs at (NewValue key text) apart =
    let empty = with_empty_version r v refs in
    either_along r v refs (is_key_of refs at key) (is_key_of empty at key)
    (unless_refused (fault_at refs at (value_fault None (has_key key) text)) (after_change_of_value refs at None (has_key key) text) refs)
    (with_pair refs at (pair_of key text))
    (unless_refused (fault_at empty at (value_fault None (has_key key) text)) (after_change_of_value empty at None (has_key key) text) empty)
    (with_pair empty at (pair_of key text)) (key_alike r v refs at key apart)
    (unless_along r v refs (after_change_of_value refs at None (has_key key) text) (after_change_of_value empty at None (has_key key) text)
    (fault_at refs at (value_fault None (has_key key) text)) (fault_at empty at (value_fault None (has_key key) text)) apart
    (value_fault_alike r v refs at None (has_key key) text apart (λ here. refl))
    (changed_along r v refs at (with_entries None (map (with_value (has_key key) text))) apart
    (entries_is_along r v refs at None (map (with_value (has_key key) text)) apart (λ here. refl))))
    (pair_along r v refs at (pair_of key text) apart)

table_along : (r v : ℕ) (refs : References) (at : ℕ) (asked : ListChange) → IsNotSearched refs r v
    → RefsAlong r v refs (after_table_change refs at asked) (after_table_change (with_empty_version r v refs) at asked)
table_along r v refs at asked apart =
    either_along r v refs (is_fit asked) (is_fit asked) (after_fit_change refs at asked) refs
    (after_fit_change (with_empty_version r v refs) at asked) (with_empty_version r v refs) refl
    (fit_along r v refs at asked apart) (refs_stay r v refs apart)

-- ---- states

follows_both : (r v : ℕ) (old middle new : References) → Follows r v old middle → Follows r v middle new → Follows r v old new
follows_both r v old middle new first second = record {
  apart = second.apart;
  names = λ word. second.names word ∙ first.names word;
  number = second.number ∙ first.number;
}

abbrev RuleState : Type 0
RuleState = State References

-- the state as if nothing was added to the version
abbrev pub empty_state : ℕ → ℕ → RuleState → RuleState
empty_state r v state = record state { tables = with_empty_version r v state.tables }

abbrev empty_effect : ℕ → ℕ → Effect References → Effect References
empty_effect r v (Goes state) = Goes (empty_state r v state)
empty_effect r v (Stops state) = Stops (empty_state r v state)
empty_effect r v (Ends verdict state) = Ends verdict (empty_state r v state)

abbrev tables_of : Effect References → References
tables_of (Goes state) = state.tables
tables_of (Stops state) = state.tables
tables_of (Ends verdict state) = state.tables

record RulesAlong (r v : ℕ) (refs : References) (effect along : Effect References) : Type 0 where
  same : along ≡ empty_effect r v effect
  follows : Follows r v refs (tables_of effect)

-- what is read in a state
read_in : {A : Type 0} (given : Context → List TableHead → List (List Entry) → A) (r v : ℕ) (conn : Conn) (state : RuleState)
    → IsNotSearched state.tables r v
    → in_state given refs_view conn (empty_state r v state) ≡ in_state given refs_view conn state
read_in given r v conn state apart =
    ap (λ (lists : List (List Entry)). given (record { message = state.message; conn = conn; vars = state.vars }) state.tables.heads lists)
    (searched_alike state.tables r v apart)

change_along : (r v : ℕ) (table : ℕ) (asked other : ListChange) (state : RuleState) → IsNotSearched state.tables r v → other ≡ asked
    → RulesAlong r v state.tables (change_effect refs_view table asked state) (change_effect refs_view table other (empty_state r v state))
change_along r v table asked other state apart same =
    let goes = table_along r v state.tables table asked apart in
    record {
      same =
          ap (λ (a : ListChange). change_effect refs_view table a (empty_state r v state)) same
          ∙ ap (λ (refs : References). Goes (record state { tables = refs })) goes.same;
      follows = goes.follows;
    }

edit_along : (r v : ℕ) (edit other : Edit) (state : RuleState) → IsNotSearched state.tables r v → other ≡ edit
    → RulesAlong r v state.tables (edit_effect edit state) (edit_effect other (empty_state r v state))
edit_along r v edit other state apart same =
    subst (λ (o : Edit). RulesAlong r v state.tables (edit_effect edit state) (edit_effect o (empty_state r v state))) (sym same)
    (go (is_none edit.fault) state.strict)
  where
    go : (fine strict : Bool) → RulesAlong r v state.tables
        (cond fine (Goes (record state { message = edit.head })) (cond strict (Ends verdict.Error state) (Goes state)))
        (cond fine (Goes (record (empty_state r v state) { message = edit.head })) (cond strict (Ends verdict.Error (empty_state r v state)) (Goes (empty_state r v state))))
    go true strict = record { same = refl; follows = stays state.tables r v apart }
    go false true = record { same = refl; follows = stays state.tables r v apart }
    go false false = record { same = refl; follows = stays state.tables r v apart }

-- a rewrite by what formats make
rewrite_along : (r v : ℕ) (conn : Conn) (edit : (List Part → List ℕ) → Edit) (state : RuleState) → IsNotSearched state.tables r v
    → RulesAlong r v state.tables (edit_effect (edit (text_in refs_view conn state)) state)
    (edit_effect (edit (text_in refs_view conn (empty_state r v state))) (empty_state r v state))
rewrite_along r v conn edit state apart =
    edit_along r v (edit (text_in refs_view conn state)) (edit (text_in refs_view conn (empty_state r v state))) state apart
    (ap edit (read_in format_text r v conn state apart))

text_same : (r v : ℕ) (conn : Conn) (state : RuleState) (format : List Part) → IsNotSearched state.tables r v
    → text_in refs_view conn (empty_state r v state) format ≡ text_in refs_view conn state format
text_same r v conn state format apart = ap (λ (text : List Part → List ℕ). text format) (read_in format_text r v conn state apart)

-- ---- actions

action_along : (r v : ℕ) (conn : Conn) (asked : Action) (state : RuleState) → IsNotSearched state.tables r v
    → RulesAlong r v state.tables (action_effect refs_view conn asked state) (action_effect refs_view conn asked (empty_state r v state))
action_along r v conn action.Allow state apart = record { same = refl; follows = stays state.tables r v apart }
action_along r v conn (action.Deny status) state apart = record { same = refl; follows = stays state.tables r v apart }
action_along r v conn (action.SetVar name expr) state apart = record {
  same =
      ap (λ (value : Expr → Option Value). Goes (record (empty_state r v state) { vars = option_map_or (with_var state.vars conn.id name) (value expr) state.vars }))
      (read_in expr_value r v conn state apart);
  follows = stays state.tables r v apart;
}
action_along r v conn (action.UnsetVar name) state apart = record { same = refl; follows = stays state.tables r v apart }
action_along r v conn (action.AddAcl table key) state apart =
    change_along r v table (Addition (text_in refs_view conn state key)) (Addition (text_in refs_view conn (empty_state r v state) key)) state apart
    (ap (λ (text : List ℕ). Addition text) (text_same r v conn state key apart))
action_along r v conn (action.DelAcl table key) state apart =
    change_along r v table (Removal (text_in refs_view conn state key)) (Removal (text_in refs_view conn (empty_state r v state) key)) state apart
    (ap (λ (text : List ℕ). Removal text) (text_same r v conn state key apart))
action_along r v conn (action.DelMap table key) state apart =
    change_along r v table (Removal (text_in refs_view conn state key)) (Removal (text_in refs_view conn (empty_state r v state) key)) state apart
    (ap (λ (text : List ℕ). Removal text) (text_same r v conn state key apart))
action_along r v conn (action.SetMap table key text) state apart =
    change_along r v table (NewValue (text_in refs_view conn state key) (text_in refs_view conn state text))
    (NewValue (text_in refs_view conn (empty_state r v state) key) (text_in refs_view conn (empty_state r v state) text)) state apart
    (ap (λ (t : List ℕ). NewValue t (text_in refs_view conn (empty_state r v state) text)) (text_same r v conn state key apart)
    ∙ ap (λ (t : List ℕ). NewValue (text_in refs_view conn state key) t) (text_same r v conn state text apart))
action_along r v conn (action.Redirect kind format status drop_query) state apart = record {
  same =
      ap (λ (text : List ℕ). Ends (redirect_verdict kind text status drop_query state.message) (empty_state r v state))
      (text_same r v conn state format apart);
  follows = stays state.tables r v apart;
}
action_along r v conn (action.StrictMode on) state apart = record { same = refl; follows = stays state.tables r v apart }
action_along r v conn rewrite state apart = rewrite_along r v conn (λ text. edit_of text rewrite state.message) state apart

-- ---- rules

wider : (r v : ℕ) (old middle : References) (effect along : Effect References) → Follows r v old middle
    → RulesAlong r v middle effect along → RulesAlong r v old effect along
wider r v old middle effect along first second = record {
  same = second.same;
  follows = follows_both r v old middle (tables_of effect) first second.follows;
}

then_along : (r v : ℕ) (refs : References) (rest : RuleState → Effect References) (effect along : Effect References)
    → ((state : RuleState) → IsNotSearched state.tables r v → RulesAlong r v state.tables (rest state) (rest (empty_state r v state)))
    → RulesAlong r v refs effect along → RulesAlong r v refs (then_rules rest effect) (then_rules rest along)
then_along r v refs rest effect along each goes =
    subst (λ (a : Effect References). RulesAlong r v refs (then_rules rest effect) (then_rules rest a)) (sym goes.same)
    (go effect goes.follows)
  where
    go : (e : Effect References) → Follows r v refs (tables_of e)
        → RulesAlong r v refs (then_rules rest e) (then_rules rest (empty_effect r v e))
    go (Goes state) follows =
        wider r v refs state.tables (rest state) (rest (empty_state r v state)) follows (each state follows.apart)
    go (Stops state) follows = record { same = refl; follows = follows }
    go (Ends verdict state) follows = record { same = refl; follows = follows }

taken_same : (r v : ℕ) (conn : Conn) (acls : Acls) (rule : Rule) (state : RuleState) → IsNotSearched state.tables r v
    → is_taken (in_state cond_holds refs_view conn (empty_state r v state) acls) rule.unless rule.cond
    ≡ is_taken (in_state cond_holds refs_view conn state acls) rule.unless rule.cond
taken_same r v conn acls rule state apart =
    ap (λ (holds : Acls → List (List Term) → Bool). is_taken (holds acls) rule.unless rule.cond) (read_in cond_holds r v conn state apart)

if_along : (r v : ℕ) (refs : References) (test other : Bool) (first second first_along second_along : Effect References) → other ≡ test
    → RulesAlong r v refs first first_along → RulesAlong r v refs second second_along
    → RulesAlong r v refs (cond test first second) (cond other first_along second_along)
if_along r v refs test other first second first_along second_along same one two =
    subst (λ (o : Bool). RulesAlong r v refs (cond test first second) (cond o first_along second_along)) (sym same) (go test)
  where
    go : (b : Bool) → RulesAlong r v refs (cond b first second) (cond b first_along second_along)
    go true = one
    go false = two

rules_along : (r v : ℕ) (conn : Conn) (acls : Acls) (rules : List Rule) (state : RuleState) → IsNotSearched state.tables r v
    → RulesAlong r v state.tables (rules_effect refs_view conn acls rules state) (rules_effect refs_view conn acls rules (empty_state r v state))
rules_along r v conn acls [] state apart = record { same = refl; follows = stays state.tables r v apart }
rules_along r v conn acls (rule ∷ rules) state apart =
    let rest = rules_effect refs_view conn acls rules in
    if_along r v state.tables (is_taken (in_state cond_holds refs_view conn state acls) rule.unless rule.cond)
    (is_taken (in_state cond_holds refs_view conn (empty_state r v state) acls) rule.unless rule.cond)
    (then_rules rest (action_effect refs_view conn rule.action state)) (rest state)
    (then_rules rest (action_effect refs_view conn rule.action (empty_state r v state))) (rest (empty_state r v state))
    (taken_same r v conn acls rule state apart)
    (then_along r v state.tables rest (action_effect refs_view conn rule.action state) (action_effect refs_view conn rule.action (empty_state r v state))
    (λ next other. rules_along r v conn acls rules next other) (action_along r v conn rule.action state apart))
    (rules_along r v conn acls rules state apart)

-- ---- requests

-- what is made of a request as if nothing was added to the version
pub record EvaluationAlong (r v : ℕ) (refs : References) (made along : Evaluation References) : Type 0 where
  pub verdict : along.verdict ≡ made.verdict
  pub state : along.state ≡ empty_state r v made.state
  pub follows : Follows r v refs made.state.tables

after_along : (r v : ℕ) (refs : References) (later : RuleState → Verdict) (effect along : Effect References)
    → ((state : RuleState) → IsNotSearched state.tables r v → later (empty_state r v state) ≡ later state)
    → RulesAlong r v refs effect along → EvaluationAlong r v refs (after_rules later effect) (after_rules later along)
after_along r v refs later effect along same goes =
    subst (λ (a : Effect References). EvaluationAlong r v refs (after_rules later effect) (after_rules later a)) (sym goes.same)
    (go effect goes.follows)
  where
    go : (e : Effect References) → Follows r v refs (tables_of e)
        → EvaluationAlong r v refs (after_rules later e) (after_rules later (empty_effect r v e))
    go (Goes state) follows = record { verdict = same state follows.apart; state = refl; follows = follows }
    go (Stops state) follows = record { verdict = same state follows.apart; state = refl; follows = follows }
    go (Ends verdict state) follows = record { verdict = refl; state = refl; follows = follows }

pub evaluation_along : (r v : ℕ) (conn : Conn) (program : Rules) (state : RuleState) → IsNotSearched state.tables r v
    → EvaluationAlong r v state.tables (evaluation refs_view conn program state) (evaluation refs_view conn program (empty_state r v state))
evaluation_along r v conn program state apart =
    after_along r v state.tables (λ after. in_state verdict_at refs_view conn after program) (rules_effect refs_view conn program.acls program.rules state)
    (rules_effect refs_view conn program.acls program.rules (empty_state r v state))
    (λ after other. ap (λ (verdict : Rules → Verdict). verdict program) (read_in verdict_at r v conn after other))
    (rules_along r v conn program.acls program.rules state apart)
