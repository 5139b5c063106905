-- Which statement decides, from where the rules come to.
use Rattle.std.proofs.Common.{cond, ◌≡◌, ◌&&◌, ◌+◌, Bool, true, false, ℕ, suc, List, [], ◌∷◌, Option, None, Some, refl, ap, sym, ◌∙◌, arith}
use Rattle.std.specs.Prelude.{is_some, if◌then◌else◌}
use Rattle.std.specs.List.{filter, filter_map}
use Rattle.hx_acl.specs.Holds.{Acls}
use Rattle.hx_ast.specs.declared.action.Part.{Part}
use Rattle.hx_ast.specs.declared.statement.Rule.{Rule}
use Rattle.hx_ast.specs.declared.statement.Term.{Term}
use Rattle.hx_fetch.specs.declared.world.Conn.{Conn}
use Rattle.hx_http.specs.Parts.{Parts}
use Rattle.hx_sample.specs.Find.{first_item}
use Rattle.hx_rules.specs.declared.actions.Continuation.{Continuation}
use Rattle.hx_rules.specs.declared.verdict.Verdict.{Verdict}
use Rattle.hx_rules.specs.Deciding.{deciding_in, deciding_of, ending_after, ending_rule, first_from}
use Rattle.hx_rules.specs.EffectView.{effect_of, evaluation_of, rule_effect}
use Rattle.hx_rules.specs.Failures.{is_taken_in}
use Rattle.hx_rules.specs.Programs.{Rules}
use Rattle.hx_rules.specs.State.{State, TableView}
use Rattle.hx_rules.specs.Verdicts.{redirects_verdict, action_effect, Effect, evaluation, Goes, is_taken, redirection}
use Rattle.hx_rules.proofs.ActionLemmas.{redirect_passed}

one_more : (n : ℕ) → suc n ≡ n + 1
one_more n = omega arith

-- an item that doesn't pass
pub first_passed : {A : Type 0} (passes : A → Bool) (position : ℕ) (x : A) (xs : List A) → passes x ≡ false → first_from passes position (x ∷ xs) ≡ first_from passes (position + 1) xs
first_passed passes position x xs none =
    ap (λ (b : Bool). if b then Some (position, x) else first_from passes (suc position) xs) none
    ∙ ap (λ (n : ℕ). first_from passes n xs) (one_more position)

-- A rule that is no redirect, or isn't taken, gives no verdict.
pub record IsPassed (holds : List (List Term) → Bool) (text : List Part → List ℕ) (head : Parts) (rule : Rule) : Type 0 where
  pub none : (is_some (redirection text head rule.action) && is_taken holds rule.unless rule.cond) ≡ false
  pub verdict : (rules : List Rule) → redirects_verdict holds text head (rule ∷ rules) ≡ redirects_verdict holds text head rules

pub passed_by_action : (holds : List (List Term) → Bool) (text : List Part → List ℕ) (head : Parts) (rule : Rule) → redirection text head rule.action ≡ None → IsPassed holds text head rule
passed_by_action holds text head rule none = record {
  none = ap (λ (found : Option Verdict). is_some found && is_taken holds rule.unless rule.cond) none;
  verdict = λ rules. redirect_passed holds text head rule rules none;
}

both_false : (a b : Bool) → b ≡ false → (a && b) ≡ false
both_false true b none = none
both_false false b none = refl

pub passed_by_condition : (holds : List (List Term) → Bool) (text : List Part → List ℕ) (head : Parts) (rule : Rule) → is_taken holds rule.unless rule.cond ≡ false → IsPassed holds text head rule
passed_by_condition holds text head rule none = record {
  none = both_false (is_some (redirection text head rule.action)) (is_taken holds rule.unless rule.cond) none;
  verdict = λ rules.
      let others : List Rule = filter (λ (r : Rule). is_taken holds r.unless r.cond) rules in
      ap (λ (taken : Bool). first_item (filter_map (λ (r : Rule). redirection text head r.action) (cond taken (rule ∷ others) others))) none;
}

-- ---- the rule that ends the rules

ending_if : {S : Type 0} (rest : State S → Option ℕ) (position : ℕ) (taken : Bool) (done : Effect S) (state : State S) → (if taken then ending_after rest position done else rest state) ≡ ending_after rest position (if taken then done else Goes state)
ending_if rest position true done state = refl
ending_if rest position false done state = refl

-- the first of the rules, and those after it
pub ending_first : {S : Type 0} (view : TableView S) (conn : Conn) (acls : Acls) (position : ℕ) (rule : Rule) (rules : List Rule) (state : State S) → ending_rule view conn acls position (rule ∷ rules) state ≡ ending_after (ending_rule view conn acls (suc position) rules) position (rule_effect view conn acls rule state)
ending_first view conn acls position rule rules state =
    ending_if (ending_rule view conn acls (suc position) rules) position (is_taken_in view conn acls state rule.unless rule.cond) (action_effect view conn rule.action state) state

-- the rule that ends those that are left, by the answer of the code for the first of them
pub ending_there : {S : Type 0} (view : TableView S) (conn : Conn) (acls : Acls) (position : ℕ) (rule : Rule) (others rules : List Rule) (state next : State S) (answer given : Continuation) → rules ≡ rule ∷ others → answer ≡ given → effect_of answer next ≡ rule_effect view conn acls rule state → ending_after (ending_rule view conn acls (position + 1) others) position (effect_of given next) ≡ ending_rule view conn acls position rules state
ending_there view conn acls position rule others rules state next answer given list is does =
    ap (λ (n : ℕ). ending_after (ending_rule view conn acls n others) position (effect_of given next)) (sym (one_more position))
    ∙ ap (λ (answer : Continuation). ending_after (ending_rule view conn acls (suc position) others) position (effect_of answer next)) (sym is)
    ∙ ap (ending_after (ending_rule view conn acls (suc position) others) position) does
    ∙ sym (ending_first view conn acls position rule others state)
    ∙ ap (λ (rules : List Rule). ending_rule view conn acls position rules state) (sym list)

pub none_ending : {S : Type 0} (view : TableView S) (conn : Conn) (acls : Acls) (position : ℕ) (rules : List Rule) (state : State S) → rules ≡ [] → None ≡ ending_rule view conn acls position rules state
none_ending view conn acls position rules state none =
    ap (λ (rules : List Rule). ending_rule view conn acls position rules state) (sym none)

-- what decides, by the rule that ends the rules and what is made of the request
pub decided_by : {S : Type 0} (view : TableView S) (conn : Conn) (program : Rules) (origin next : State S) (given : Option Verdict) (ending : Option ℕ) → ending ≡ ending_rule view conn program.acls 0 program.rules origin → evaluation view conn program origin ≡ evaluation_of view conn program given next → deciding_of view conn program origin ≡ deciding_in view conn program ending next
decided_by view conn program origin next given ending is made =
    ap (λ ending. deciding_in view conn program ending (evaluation view conn program origin).state) (sym is)
    ∙ ap (λ made. deciding_in view conn program ending made.state) made
