-- The statement that decides is judged in the state that stands after the request, and no other is.
use Rattle.std.proofs.Common.{◌≡◌, ◌&&◌, ◌+◌, Bool, true, false, ℕ, suc, List, [], ◌∷◌, ◌++◌, Option, None, Some, length, take, refl, ap, sym, subst, ◌∙◌, arith, inl, inr}
use Rattle.std.specs.Prelude.{is_some, option_and_then, option_map, slice_get, if◌then◌else◌}
use Rattle.std.specs.List.{find, list_any}
use Rattle.std.specs.Option.{option_map_or, unwrap_or}
use Rattle.std.proofs.lemmas.Bool.{cases_Bool, true≢false, false≢true}
use Rattle.std.proofs.lemmas.Option.{same_Some}
use Rattle.std.proofs.Math.Seq.{take-append_seam}
use Rattle.hx_acl.specs.Holds.{Acls, cond_holds}
use Rattle.hx_ast.specs.declared.statement.Rule.{Rule}
use Rattle.hx_ast.specs.declared.statement.Term.{Term}
use Rattle.hx_fetch.specs.declared.world.Conn.{Conn}
use Rattle.hx_rules.specs.declared.deciding.Deciding.{Deciding}
use Rattle.hx_rules.specs.declared.deciding.Deciding.TheVariants as by
use Rattle.hx_rules.specs.declared.verdict.Verdict.{Verdict}
use Rattle.hx_rules.specs.Deciding.{condition_of, deciding_among, deciding_at, deciding_in, deciding_of, ending_after, ending_rule, fallback_deciding, first_from}
use Rattle.hx_rules.specs.EffectView.{rule_effect}
use Rattle.hx_rules.specs.Failures.{is_taken_in}
use Rattle.hx_rules.specs.Formats.{text_in}
use Rattle.hx_rules.specs.Judged.{backend_taken_in, EndsRules, GivesBackend, GivesNoBackend, IsFirst, IsJudgedIn, LeavesUndecided, names_in, Passes, Redirects, redirects_in}
use Rattle.hx_rules.specs.Programs.{BackendRule, Rules}
use Rattle.hx_rules.specs.Reached.{IsReachedAt}
use Rattle.hx_rules.specs.State.{in_state, State, TableView}
use Rattle.hx_rules.specs.Verdicts.{action_effect, after_rules, Effect, Ends, evaluation, Goes, is_taken, redirection, rules_effect, Stops, then_rules, verdict_at}
use Rattle.hx_rules.proofs.DecidingLemmas.{ending_first}
use Rattle.hx_rules.proofs.LawLemmas.{ends_there, taken}
use Rattle.hx_rules.proofs.RuleLemmas.{action_leaves, effect_first, Leaves, rule_leaves}

-- ---- the first item that passes

from_first : (number offset : ℕ) → number ≡ offset + 0 → number ≡ offset
from_first number offset is = omega (arith, is)

later_is_first : {A : Type 0} (passes : A → Bool) (x : A) (xs : List A) (offset : ℕ) (y : A) → passes x ≡ false → IsFirst passes xs offset y → IsFirst passes (x ∷ xs) (suc offset) y
later_is_first passes x xs offset y other later = record {
  before = x ∷ later.before;
  after = later.after;
  items = ap (λ zs. x ∷ zs) later.items;
  count = ap suc later.count;
  none = rw other later.none;
  this = later.this;
}

-- the first item that passes, with its position among those from `start` on
record FoundFirst {A : Type 0} (passes : A → Bool) (start number : ℕ) (xs : List A) (y : A) : Type 0 where
  offset : ℕ
  is : number ≡ offset + start
  first : IsFirst passes xs offset y

found_here : {A : Type 0} (passes : A → Bool) (start number : ℕ) (x : A) (xs : List A) (y : A) (b : Bool) → passes x ≡ b → (if b then Some (start, x) else first_from passes (suc start) xs) ≡ Some (number, y) → (first_from passes (suc start) xs ≡ Some (number, y) → FoundFirst passes (suc start) number xs y) → FoundFirst passes start number (x ∷ xs) y
found_here passes start number x xs y true is found rest =
    let same = same_Some (start, x) (number, y) found in
    record {
      offset = 0;
      is = omega (arith, ap (λ p. p.0) same);
      first = record {
        before = [];
        after = xs;
        items = ap (λ (p : ℕ × _). p.1 ∷ xs) same;
        count = refl;
        none = refl;
        this = subst (λ z. passes z ≡ true) (ap (λ p. p.1) same) is;
      };
    }
found_here passes start number x xs y false is found rest =
    let later = rest found in
    record {
      offset = suc later.offset;
      is = omega (arith, later.is);
      first = later_is_first passes x xs later.offset y is later.first;
    }

found_first : {A : Type 0} (passes : A → Bool) (start number : ℕ) (xs : List A) (y : A) → first_from passes start xs ≡ Some (number, y) → FoundFirst passes start number xs y
found_first passes start number [] y found = absurd (cc found)
found_first passes start number (x ∷ xs) y found =
    found_here passes start number x xs y (passes x) refl found (found_first passes (suc start) number xs y)

is_first : {A : Type 0} (passes : A → Bool) (number : ℕ) (xs : List A) (y : A) → first_from passes 0 xs ≡ Some (number, y) → IsFirst passes xs number y
is_first passes number xs y found =
    let first = found_first passes 0 number xs y found in
    subst (λ n. IsFirst passes xs n y) (sym (from_first number first.offset first.is)) first.first

-- no item passes
none_passes : {A : Type 0} (passes : A → Bool) (start : ℕ) (xs : List A) → first_from passes start xs ≡ None → list_any passes xs ≡ false
none_passes passes start [] none = refl
none_passes passes start (x ∷ xs) none =
    elim (cases_Bool (passes x)) [
      | inl is ↦ absurd (cc (rw is at none))
      | inr other ↦ rw other (none_passes passes (suc start) xs (rw other at none))
    ]

none_from : {A : Type 0} (passes : A → Bool) (start : ℕ) (xs : List A) → list_any passes xs ≡ false → first_from passes start xs ≡ None
none_from passes start [] none = refl
none_from passes start (x ∷ xs) none =
    elim (cases_Bool (passes x)) [
      | inl is ↦ absurd (true≢false (rw is at none))
      | inr other ↦ rw other (none_from passes (suc start) xs (rw other at none))
    ]

first_after : {A : Type 0} (passes : A → Bool) (start number : ℕ) (before : List A) (x : A) (after : List A) → number ≡ length before + start → list_any passes before ≡ false → passes x ≡ true → first_from passes start (before ++ x ∷ after) ≡ Some (number, x)
first_after passes start number [] x after count none this =
    let same : start ≡ number = omega (arith, count) in
    rw this (ap (λ (n : ℕ). Some (n, x)) same)
first_after passes start number (y ∷ ys) x after count none this =
    elim (cases_Bool (passes y)) [
      | inl is ↦ absurd (true≢false (rw is at none))
      | inr other ↦ rw other (first_after passes (suc start) number ys x after (omega (arith, count)) (rw other at none) this)
    ]

from_is_first : {A : Type 0} {passes : A → Bool} {xs : List A} {position : ℕ} {x : A} → IsFirst passes xs position x → first_from passes 0 xs ≡ Some (position, x)
from_is_first {A} {passes} {xs} {position} {x} first =
    ap (first_from passes 0) first.items
    ∙ first_after passes 0 position first.before x first.after (omega (arith, first.count)) first.none first.this

find_is : {A : Type 0} (passes : A → Bool) (start : ℕ) (xs : List A) → find passes xs ≡ option_map (λ (p : ℕ × A). p.1) (first_from passes start xs)
find_is passes start [] = refl
find_is passes start (x ∷ xs) =
    elim (cases_Bool (passes x)) [
      | inl is ↦ rw is refl
      | inr other ↦ rw other (find_is passes (suc start) xs)
    ]

get_between : {A : Type 0} (before : List A) (x : A) (after : List A) → slice_get (before ++ x ∷ after) (length before) ≡ Some x
get_between [] x after = refl
get_between (y ∷ ys) x after = get_between ys x after

-- the item after so many others
item_at : {A : Type 0} (xs before : List A) (x : A) (after : List A) (position : ℕ) → xs ≡ before ++ x ∷ after → position ≡ length before → slice_get xs position ≡ Some x
item_at xs before x after position items count =
    ap (slice_get xs) count
    ∙ ap (λ ys. slice_get ys (length before)) items
    ∙ get_between before x after

-- ---- after the rules of `http-request`

module _ {S : Type 0} (view : TableView S) (conn : Conn) (program : Rules) (origin state : State S) where
  by_fallback : (given : Bool) → is_some program.fallback ≡ given → GivesNoBackend view conn program origin state → IsJudgedIn view conn program origin (if given then by.Fallback else by.Nothing) state
  by_fallback true is none = (none, is)
  by_fallback false is none = (none, is)

  by_named : (number : ℕ) (rule : BackendRule) (named : Bool) → names_in view conn state rule ≡ named → first_from (backend_taken_in view conn program.acls state) 0 program.backends ≡ Some (number, rule) → Passes view conn program origin state → IsJudgedIn view conn program origin (if named then by.Backend number else fallback_deciding program.fallback) state
  by_named number rule true is found passes = record {
    passes = passes;
    rule = rule;
    first = is_first (backend_taken_in view conn program.acls state) number program.backends rule found;
    named = is;
  }
  by_named number rule false is found passes =
      by_fallback (is_some program.fallback) refl (record {
        passes = passes;
        named = ap (λ (found : Option BackendRule). option_map_or (names_in view conn state) found false)
            (find_is (backend_taken_in view conn program.acls state) 0 program.backends
            ∙ ap (option_map (λ (p : ℕ × BackendRule). p.1)) found) ∙ is;
      })

  by_backends : (first : Option (ℕ × BackendRule)) → first_from (backend_taken_in view conn program.acls state) 0 program.backends ≡ first → Passes view conn program origin state → IsJudgedIn view conn program origin (deciding_among (text_in view conn state) program.fallback first) state
  by_backends None found passes =
      by_fallback (is_some program.fallback) refl (record {
        passes = passes;
        named = ap (λ (found : Option BackendRule). option_map_or (names_in view conn state) found false)
            (find_is (backend_taken_in view conn program.acls state) 0 program.backends
            ∙ ap (option_map (λ (p : ℕ × BackendRule). p.1)) found);
      })
  by_backends (Some first) found passes =
      by_named first.0 first.1 (names_in view conn state first.1) refl found passes

  by_redirects : (first : Option (ℕ × Rule)) → first_from (redirects_in view conn program.acls state) 0 program.redirects ≡ first → LeavesUndecided (rules_effect view conn program.acls program.rules origin) state → IsJudgedIn view conn program origin (unwrap_or (option_map (λ (first : ℕ × Rule). by.Redirect first.0) first) (deciding_among (text_in view conn state) program.fallback (first_from (backend_taken_in view conn program.acls state) 0 program.backends))) state
  by_redirects None found undecided =
      by_backends (first_from (backend_taken_in view conn program.acls state) 0 program.backends) refl (record {
        undecided = undecided;
        redirected = none_passes (redirects_in view conn program.acls state) 0 program.redirects found;
      })
  by_redirects (Some first) found undecided = record {
    undecided = undecided;
    rule = first.1;
    first = is_first (redirects_in view conn program.acls state) first.0 program.redirects first.1 found;
  }

-- ---- rules of `http-request`

-- the state that an effect leaves
abbrev left_by : {S : Type 0} → Effect S → State S
left_by (Goes state) = state
left_by (Stops state) = state
left_by (Ends given state) = state

after_left : {S : Type 0} (later : State S → Verdict) (effect : Effect S) → (after_rules later effect).state ≡ left_by effect
after_left later (Goes state) = refl
after_left later (Stops state) = refl
after_left later (Ends given state) = refl

undecided_left : {S : Type 0} (effect : Effect S) (state : State S) → LeavesUndecided effect state → left_by effect ≡ state
undecided_left (Goes last) state undecided = undecided
undecided_left (Stops last) state undecided = undecided
undecided_left (Ends given last) state undecided = absurd undecided

ends_if_taken : {S : Type 0} (taken : Bool) (does : Effect S) (state last : State S) (given : Verdict) → (if taken then does else Goes state) ≡ Ends given last → (taken ≡ true) × (does ≡ Ends given last)
ends_if_taken true does state last given ends = (refl, ends)
ends_if_taken false does state last given ends = absurd (cc ends)

-- The rule with this number, where the first has the number `start`, ends the rules with a verdict,
-- and is judged in the state that all of them leave.
record EndsAmong {S : Type 0} (view : TableView S) (conn : Conn) (acls : Acls) (rules : List Rule) (start number : ℕ) (origin : State S) : Type 0 where
  before : List Rule
  rule : Rule
  after : List Rule
  state : State S
  items : rules ≡ before ++ rule ∷ after
  count : number ≡ length before + start
  effect : rules_effect view conn acls before origin ≡ Goes state
  taken : is_taken_in view conn acls state rule.unless rule.cond ≡ true
  given : Verdict
  last : State S
  ends : action_effect view conn rule.action state ≡ Ends given last
  leaves : left_by (rules_effect view conn acls rules origin) ≡ state

module _ {S : Type 0} (view : TableView S) (conn : Conn) (acls : Acls) where
  -- where they end with no verdict
  undecided_after : (start : ℕ) (rules : List Rule) (effect : Effect S) → ending_after (ending_rule view conn acls (suc start) rules) start effect ≡ None → ((next : State S) → ending_rule view conn acls (suc start) rules next ≡ None → LeavesUndecided (rules_effect view conn acls rules next) (left_by (rules_effect view conn acls rules next))) → LeavesUndecided (then_rules (rules_effect view conn acls rules) effect) (left_by (then_rules (rules_effect view conn acls rules) effect))
  undecided_after start rules (Goes next) none rest = rest next none
  undecided_after start rules (Stops next) none rest = refl
  undecided_after start rules (Ends given next) none rest = absurd (cc none)

  undecided : (start : ℕ) (rules : List Rule) (origin : State S) → ending_rule view conn acls start rules origin ≡ None → LeavesUndecided (rules_effect view conn acls rules origin) (left_by (rules_effect view conn acls rules origin))
  undecided start [] origin none = refl
  undecided start (rule ∷ rules) origin none =
      subst (λ (effect : Effect S). LeavesUndecided effect (left_by effect)) (sym (effect_first view conn acls rule rules origin))
      (undecided_after start rules (rule_effect view conn acls rule origin) (sym (ending_first view conn acls start rule rules origin) ∙ none) (undecided (suc start) rules))

  ending_none_after : (start : ℕ) (rules : List Rule) (effect : Effect S) (state : State S) → LeavesUndecided (then_rules (rules_effect view conn acls rules) effect) state → ((next : State S) → LeavesUndecided (rules_effect view conn acls rules next) state → ending_rule view conn acls (suc start) rules next ≡ None) → ending_after (ending_rule view conn acls (suc start) rules) start effect ≡ None
  ending_none_after start rules (Goes next) state none rest = rest next none
  ending_none_after start rules (Stops next) state none rest = refl
  ending_none_after start rules (Ends given next) state none rest = absurd none

  ending_none : (start : ℕ) (rules : List Rule) (origin state : State S) → LeavesUndecided (rules_effect view conn acls rules origin) state → ending_rule view conn acls start rules origin ≡ None
  ending_none start [] origin state none = refl
  ending_none start (rule ∷ rules) origin state none =
      ending_first view conn acls start rule rules origin
      ∙ ending_none_after start rules (rule_effect view conn acls rule origin) state
      (subst (λ (effect : Effect S). LeavesUndecided effect state) (effect_first view conn acls rule rules origin) none)
      (λ next. ending_none (suc start) rules next state)

  -- where a rule ends them
  ends_after : (start number : ℕ) (rule : Rule) (rules : List Rule) (origin : State S) (effect : Effect S) → rule_effect view conn acls rule origin ≡ effect → ending_after (ending_rule view conn acls (suc start) rules) start effect ≡ Some number → ((next : State S) → ending_rule view conn acls (suc start) rules next ≡ Some number → EndsAmong view conn acls rules (suc start) number next) → EndsAmong view conn acls (rule ∷ rules) start number origin
  ends_after start number rule rules origin (Goes next) is found rest =
      let later = rest next found in
      record {
        before = rule ∷ later.before;
        rule = later.rule;
        after = later.after;
        state = later.state;
        items = ap (λ (others : List Rule). rule ∷ others) later.items;
        count = omega (arith, later.count);
        effect = effect_first view conn acls rule later.before origin
            ∙ ap (then_rules (rules_effect view conn acls later.before)) is
            ∙ later.effect;
        taken = later.taken;
        given = later.given;
        last = later.last;
        ends = later.ends;
        leaves = ap left_by (effect_first view conn acls rule rules origin
            ∙ ap (then_rules (rules_effect view conn acls rules)) is)
            ∙ later.leaves;
      }
  ends_after start number rule rules origin (Stops next) is found rest = absurd (cc found)
  ends_after start number rule rules origin (Ends given next) is found rest =
      let both = ends_if_taken (is_taken_in view conn acls origin rule.unless rule.cond) (action_effect view conn rule.action origin) origin next given is in
      let same : next ≡ origin = subst (Leaves origin) is (rule_leaves view conn acls rule origin) in
      record {
        before = [];
        rule = rule;
        after = rules;
        state = origin;
        items = refl;
        count = omega (arith, same_Some start number found);
        effect = refl;
        taken = both.0;
        given = given;
        last = next;
        ends = both.1;
        leaves = ap left_by (effect_first view conn acls rule rules origin
            ∙ ap (then_rules (rules_effect view conn acls rules)) is)
            ∙ same;
      }

  ends_among : (start number : ℕ) (rules : List Rule) (origin : State S) → ending_rule view conn acls start rules origin ≡ Some number → EndsAmong view conn acls rules start number origin
  ends_among start number [] origin found = absurd (cc found)
  ends_among start number (rule ∷ rules) origin found =
      ends_after start number rule rules origin (rule_effect view conn acls rule origin) refl
      (sym (ending_first view conn acls start rule rules origin) ∙ found)
      (ends_among (suc start) number rules)

  -- a rule that is reached, taken, and gives a verdict is the one that ends them
  ending_some_after : (start number : ℕ) (rules rest : List Rule) (effect : Effect S) (state : State S) → then_rules (rules_effect view conn acls rules) effect ≡ Goes state → ((next : State S) → rules_effect view conn acls rules next ≡ Goes state → ending_rule view conn acls (suc start) rest next ≡ Some number) → ending_after (ending_rule view conn acls (suc start) rest) start effect ≡ Some number
  ending_some_after start number rules rest (Goes next) state goes later = later next goes
  ending_some_after start number rules rest (Stops next) state goes later = absurd (cc goes)
  ending_some_after start number rules rest (Ends given next) state goes later = absurd (cc goes)

  ending_some : (start number : ℕ) (before : List Rule) (rule : Rule) (after : List Rule) (origin state last : State S) (given : Verdict) → number ≡ length before + start → rules_effect view conn acls before origin ≡ Goes state → rule_effect view conn acls rule state ≡ Ends given last → ending_rule view conn acls start (before ++ rule ∷ after) origin ≡ Some number
  ending_some start number [] rule after origin state last given count goes ends =
      let here : origin ≡ state = cc goes in
      let same : start ≡ number = omega (arith, count) in
      ending_first view conn acls start rule after origin
      ∙ ap (λ (s : State S). ending_after (ending_rule view conn acls (suc start) after) start (rule_effect view conn acls rule s)) here
      ∙ ap (ending_after (ending_rule view conn acls (suc start) after) start) ends
      ∙ ap Some same
  ending_some start number (first ∷ before) rule after origin state last given count goes ends =
      ending_first view conn acls start first (before ++ rule ∷ after) origin
      ∙ ending_some_after start number before (before ++ rule ∷ after) (rule_effect view conn acls first origin) state
      (sym (effect_first view conn acls first before origin) ∙ goes)
      (λ next goes. ending_some (suc start) number before rule after next state last given (omega (arith, count)) goes ends)

-- ---- the statement that decides is judged at the end

module _ {S : Type 0} (view : TableView S) (conn : Conn) (program : Rules) (origin : State S) where
  state_left : (evaluation view conn program origin).state ≡ left_by (rules_effect view conn program.acls program.rules origin)
  state_left =
      after_left (λ after. in_state verdict_at view conn after program) (rules_effect view conn program.acls program.rules origin)

  judged_by : (ending : Option ℕ) → ending_rule view conn program.acls 0 program.rules origin ≡ ending → IsJudgedIn view conn program origin (deciding_in view conn program ending (evaluation view conn program origin).state) (evaluation view conn program origin).state
  judged_by None found =
      let last = (evaluation view conn program origin).state in
      by_redirects view conn program origin last
      (first_from (redirects_in view conn program.acls last) 0 program.redirects) refl
      (subst (LeavesUndecided (rules_effect view conn program.acls program.rules origin)) (sym state_left)
      (undecided view conn program.acls 0 program.rules origin found))
  judged_by (Some number) found =
      let at = ends_among view conn program.acls 0 number program.rules origin found in
      subst (EndsRules view conn program origin number) (sym (state_left ∙ at.leaves)) (record {
        rule = at.rule;
        reached = record {
          before = at.before;
          after = at.after;
          reached = record { rules = at.items; effect = at.effect };
          count = from_first number (length at.before) at.count;
        };
        taken = at.taken;
        given = at.given;
        last = at.last;
        ends = at.ends;
      })

  pub judged_at_the_end : IsJudgedIn view conn program origin (deciding_of view conn program origin) (evaluation view conn program origin).state
  judged_at_the_end = judged_by (ending_rule view conn program.acls 0 program.rules origin) refl

  -- ---- and no other is, in no other state

  -- this statement decides, and this state stands after the request
  abbrev DecidesIn : Deciding → State S → Type 0
  DecidesIn statement state =
      (statement ≡ deciding_of view conn program origin) × (state ≡ (evaluation view conn program origin).state)

  rule_decides : (position : ℕ) (state : State S) → EndsRules view conn program origin position state → DecidesIn (by.Rule position) state
  rule_decides position state judged =
      let at = judged.reached in
      let does : rule_effect view conn program.acls judged.rule state ≡ Ends judged.given judged.last =
      taken view conn program.acls judged.rule state judged.taken ∙ judged.ends in
      let same : judged.last ≡ state = subst (Leaves state) judged.ends (action_leaves view conn judged.rule.action state) in
      let ending : ending_rule view conn program.acls 0 program.rules origin ≡ Some position =
      ap (λ rules. ending_rule view conn program.acls 0 rules origin) at.reached.rules
      ∙ ending_some view conn program.acls 0 position at.before judged.rule at.after origin state judged.last judged.given (omega (arith, at.count)) at.reached.effect does in (
        sym (ap (λ ending. deciding_in view conn program ending (evaluation view conn program origin).state) ending),
        sym (ap (λ made. made.state) (ends_there judged.given judged.last at.reached does) ∙ same),
      )

  -- by where the rules of `http-request` come to without a verdict
  left_decides : (statement : Deciding) (state : State S) → LeavesUndecided (rules_effect view conn program.acls program.rules origin) state → in_state deciding_at view conn state program ≡ statement → DecidesIn statement state
  left_decides statement state undecided is =
      let last : (evaluation view conn program origin).state ≡ state =
      state_left ∙ undecided_left (rules_effect view conn program.acls program.rules origin) state undecided in
      let none = ending_none view conn program.acls 0 program.rules origin state undecided in (
        sym
            (ap (λ ending. deciding_in view conn program ending (evaluation view conn program origin).state) none
            ∙ ap (λ (last : State S). in_state deciding_at view conn last program) last
            ∙ is),
        sym last,
      )

  redirect_decides : (position : ℕ) (state : State S) → Redirects view conn program origin position state → DecidesIn (by.Redirect position) state
  redirect_decides position state judged =
      left_decides (by.Redirect position) state judged.undecided
      (ap (λ (first : Option (ℕ × Rule)). unwrap_or (option_map (λ (first : ℕ × Rule). by.Redirect first.0) first) (deciding_among (text_in view conn state) program.fallback (first_from (backend_taken_in view conn program.acls state) 0 program.backends)))
      (from_is_first judged.first))

  -- by the first rule of `use_backend` that is taken
  backends_decide : (statement : Deciding) (state : State S) → Passes view conn program origin state → deciding_among (text_in view conn state) program.fallback (first_from (backend_taken_in view conn program.acls state) 0 program.backends) ≡ statement → DecidesIn statement state
  backends_decide statement state passes is =
      left_decides statement state passes.undecided
      (ap (λ (first : Option (ℕ × Rule)). unwrap_or (option_map (λ (first : ℕ × Rule). by.Redirect first.0) first) (deciding_among (text_in view conn state) program.fallback (first_from (backend_taken_in view conn program.acls state) 0 program.backends)))
      (none_from (redirects_in view conn program.acls state) 0 program.redirects passes.redirected)
      ∙ is)

  backend_decides : (position : ℕ) (state : State S) → GivesBackend view conn program origin position state → DecidesIn (by.Backend position) state
  backend_decides position state judged =
      backends_decide (by.Backend position) state judged.passes
      (ap (deciding_among (text_in view conn state) program.fallback) (from_is_first judged.first)
      ∙ ap (λ (named : Bool). if named then by.Backend position else fallback_deciding program.fallback) judged.named)

  unnamed : (state : State S) (first : Option (ℕ × BackendRule)) → option_map_or (names_in view conn state) (option_map (λ (p : ℕ × BackendRule). p.1) first) false ≡ false → deciding_among (text_in view conn state) program.fallback first ≡ fallback_deciding program.fallback
  unnamed state None named = refl
  unnamed state (Some first) named =
      ap (λ (named : Bool). if named then by.Backend first.0 else fallback_deciding program.fallback) named

  fallback_decides : (statement : Deciding) (state : State S) → GivesNoBackend view conn program origin state → fallback_deciding program.fallback ≡ statement → DecidesIn statement state
  fallback_decides statement state judged is =
      backends_decide statement state judged.passes
      (unnamed state (first_from (backend_taken_in view conn program.acls state) 0 program.backends)
      (ap (λ (found : Option BackendRule). option_map_or (names_in view conn state) found false)
      (sym (find_is (backend_taken_in view conn program.acls state) 0 program.backends))
      ∙ judged.named)
      ∙ is)

  pub judged_decides : (statement : Deciding) (state : State S) → IsJudgedIn view conn program origin statement state → DecidesIn statement state
  judged_decides (by.Rule position) state judged = rule_decides position state judged
  judged_decides (by.Redirect position) state judged = redirect_decides position state judged
  judged_decides (by.Backend position) state judged = backend_decides position state judged
  judged_decides by.Fallback state judged =
      fallback_decides by.Fallback state judged.0
      (ap (λ (given : Bool). if given then by.Fallback else by.Nothing) judged.1)
  judged_decides by.Nothing state judged =
      fallback_decides by.Nothing state judged.0
      (ap (λ (given : Bool). if given then by.Fallback else by.Nothing) judged.1)

  -- ---- a rule is reached in one state

  same_before : (rules before before' : List Rule) (rule rule' : Rule) (after after' : List Rule) → rules ≡ before ++ rule ∷ after → rules ≡ before' ++ rule' ∷ after' → length before ≡ length before' → before ≡ before'
  same_before rules before before' rule rule' after after' one other count =
      sym (take-append_seam before (rule ∷ after))
      ∙ ap (take (length before)) (sym one ∙ other)
      ∙ ap (λ n. take n (before' ++ rule' ∷ after')) count
      ∙ take-append_seam before' (rule' ∷ after')

  reached_once : {position : ℕ} {rule rule' : Rule} {state state' : State S} → IsReachedAt view conn program origin position rule state → IsReachedAt view conn program origin position rule' state' → state ≡ state'
  reached_once {position} {rule} {rule'} {state} {state'} one other =
      let before = same_before program.rules one.before other.before rule rule' one.after other.after one.reached.rules other.reached.rules (sym one.count ∙ other.count) in
      let both : Goes state ≡ Goes state' =
      sym one.reached.effect
      ∙ ap (λ rules. rules_effect view conn program.acls rules origin) before
      ∙ other.reached.effect in
      cc both

  pub reached_at_the_end : (position : ℕ) (rule : Rule) (state : State S) → deciding_of view conn program origin ≡ by.Rule position → IsReachedAt view conn program origin position rule state → state ≡ (evaluation view conn program origin).state
  reached_at_the_end position rule state decides at =
      let last = (evaluation view conn program origin).state in
      let judged : EndsRules view conn program origin position last =
      subst (λ (statement : Deciding). IsJudgedIn view conn program origin statement last) decides judged_at_the_end in
      reached_once at judged.reached

-- ---- conditions of statements

-- the condition of a statement that is taken is met
met : (holds : List (List Term) → Bool) (unless unless' : Bool) (cond : Option (List (List Term))) (cond' : List (List Term)) → option_map {U = Bool × List (List Term)} (λ given. (unless, given)) cond ≡ Some (unless', cond') → is_taken holds unless cond ≡ true → is_taken holds unless' (Some cond') ≡ true
met holds unless unless' None cond' is taken = absurd (cc is)
met holds unless unless' (Some given) cond' is taken =
    let same = same_Some (unless, given) (unless', cond') is in
    subst (λ (p : Bool × List (List Term)). is_taken holds p.0 (Some p.1) ≡ true) same taken

met_at : {A : Type 0} (holds : List (List Term) → Bool) (unless_of : A → Bool) (cond_of : A → Option (List (List Term))) (xs : List A) (number : ℕ) (x : A) (unless : Bool) (cond : List (List Term)) → slice_get xs number ≡ Some x → is_taken holds (unless_of x) (cond_of x) ≡ true → option_and_then {U = Bool × List (List Term)} (λ x. option_map {U = Bool × List (List Term)} (λ given. (unless_of x, given)) (cond_of x)) (slice_get xs number) ≡ Some (unless, cond) → is_taken holds unless (Some cond) ≡ true
met_at {A} holds unless_of cond_of xs number x unless cond at taken is =
    met holds (unless_of x) unless (cond_of x) cond
    (ap (λ (o : Option A). option_and_then {U = Bool × List (List Term)} (λ x. option_map {U = Bool × List (List Term)} (λ given. (unless_of x, given)) (cond_of x)) o) (sym at) ∙ is) taken

second : (a b : Bool) → (a && b) ≡ true → b ≡ true
second true b both = both
second false b both = absurd (false≢true both)

module _ {S : Type 0} (view : TableView S) (conn : Conn) (program : Rules) (origin : State S) where
  pub judged_taken : (statement : Deciding) (state : State S) (unless : Bool) (cond : List (List Term)) → IsJudgedIn view conn program origin statement state → condition_of program statement ≡ Some (unless, cond) → is_taken_in view conn program.acls state unless (Some cond) ≡ true
  judged_taken (by.Rule position) state unless cond judged is =
      met_at (in_state cond_holds view conn state program.acls) (λ (rule : Rule). rule.unless) (λ (rule : Rule). rule.cond) program.rules position judged.rule unless cond
      (item_at program.rules judged.reached.before judged.rule judged.reached.after position judged.reached.reached.rules judged.reached.count) judged.taken is
  judged_taken (by.Redirect position) state unless cond judged is =
      met_at (in_state cond_holds view conn state program.acls) (λ (rule : Rule). rule.unless) (λ (rule : Rule). rule.cond) program.redirects position judged.rule unless cond
      (item_at program.redirects judged.first.before judged.rule judged.first.after position judged.first.items judged.first.count)
      (second (is_some (redirection (text_in view conn state) state.message judged.rule.action)) (is_taken_in view conn program.acls state judged.rule.unless judged.rule.cond) judged.first.this) is
  judged_taken (by.Backend position) state unless cond judged is =
      met_at (in_state cond_holds view conn state program.acls) (λ (rule : BackendRule). rule.unless) (λ (rule : BackendRule). rule.cond) program.backends position judged.rule unless cond
      (item_at program.backends judged.first.before judged.rule judged.first.after position judged.first.items judged.first.count) judged.first.this is
  judged_taken by.Fallback state unless cond judged is = absurd (cc is)
  judged_taken by.Nothing state unless cond judged is = absurd (cc is)
