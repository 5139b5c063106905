-- Rules one after another: where they come to, and what follows from there.
use Rattle.std.proofs.Common.{arith, ◌≡◌, Bool, true, false, List, [], ◌∷◌, ◌++◌, Option, None, Some, refl, ap, sym, subst, ◌∙◌, append_assoc, drop-cons, ◌<◌, length}
use Rattle.std.specs.Prelude.{Err, if◌then◌else◌, slice_index_or, take, drop, ◌-◌}
use Rattle.std.specs.Option.{is_none}
use Rattle.std.proofs.lemmas.List.{take_rest}
use Rattle.hx_acl.specs.Holds.{Acls}
use Rattle.hx_ast.specs.declared.action.Action.{Action}
use Rattle.hx_ast.specs.declared.action.Action.TheVariants as action
use Rattle.hx_ast.specs.declared.statement.Rule.{Rule}
use Rattle.hx_fetch.specs.declared.world.Conn.{Conn}
use Rattle.hx_outside.specs.Makers.{ExpressionText, MakerState}
use Rattle.hx_sample.specs.Changes.{ChangeCountsLarge}
use Rattle.hx_sample.specs.declared.tables.TableFault.{TableFault}
use Rattle.hx_sample.specs.declared.tables.TableFault.TheVariants as fault
use Rattle.hx_rules.specs.declared.actions.Continuation.{Continuation}
use Rattle.hx_rules.specs.declared.actions.Continuation.TheVariants as continuation
use Rattle.hx_rules.specs.declared.deciding.Decided.{Decided}
use Rattle.hx_rules.specs.declared.verdict.Verdict.{Verdict}
use Rattle.hx_rules.specs.declared.verdict.Verdict.TheVariants as verdict
use Rattle.hx_rules.specs.Failures.{ActionAsksFor, is_taken_in, RulesAskFor, StandsAt}
use Rattle.hx_rules.specs.Formats.{text_in}
use Rattle.hx_rules.specs.Programs.{Rules}
use Rattle.hx_rules.specs.Rewrites.{Edit, edit_of}
use Rattle.hx_rules.specs.State.{in_state, State, TableView}
use Rattle.hx_rules.specs.EffectView.{evaluation_of, effect_of, rule_effect, RuleAsksFor}
use Rattle.hx_rules.specs.Verdicts.{action_effect, after_rules, edit_effect, Ends, evaluation, Goes, Effect, rules_effect, Stops, then_rules, verdict_at}

-- ---- lists of rules

if_then : {S : Type 0} (rest : State S → Effect S) (taken : Bool) (done : Effect S) (state : State S) → (if taken then then_rules rest done else rest state) ≡ then_rules rest (if taken then done else Goes state)
if_then rest true done state = refl
if_then rest false done state = refl

-- a first rule, and what the others make of where it comes to
pub effect_first : {S : Type 0} (view : TableView S) (conn : Conn) (acls : Acls) (rule : Rule) (rules : List Rule) (state : State S) → rules_effect view conn acls (rule ∷ rules) state ≡ then_rules (rules_effect view conn acls rules) (rule_effect view conn acls rule state)
effect_first view conn acls rule rules state =
    if_then (rules_effect view conn acls rules) (is_taken_in view conn acls state rule.unless rule.cond) (action_effect view conn rule.action state) state

then_then : {S : Type 0} (whole first last : State S → Effect S) → ((state : State S) → whole state ≡ then_rules last (first state)) → (effect : Effect S) → then_rules whole effect ≡ then_rules last (then_rules first effect)
then_then whole first last is (Goes state) = is state
then_then whole first last is (Stops state) = refl
then_then whole first last is (Ends given state) = refl

pub effect_joined : {S : Type 0} (view : TableView S) (conn : Conn) (acls : Acls) (xs ys : List Rule) (state : State S) → rules_effect view conn acls (xs ++ ys) state ≡ then_rules (rules_effect view conn acls ys) (rules_effect view conn acls xs state)
effect_joined view conn acls [] ys state = refl
effect_joined view conn acls (x ∷ xs) ys state =
    effect_first view conn acls x (xs ++ ys) state
    ∙ then_then (rules_effect view conn acls (xs ++ ys)) (rules_effect view conn acls xs) (rules_effect view conn acls ys) (effect_joined view conn acls xs ys) (rule_effect view conn acls x state)
    ∙ ap (then_rules (rules_effect view conn acls ys)) (sym (effect_first view conn acls x xs state))

-- ---- where rules come to

-- The rules come from a state to another, in which these are left.
pub record Comes {S : Type 0} (view : TableView S) (conn : Conn) (program : Rules) (origin state : State S) (left : List Rule) : Type 0 where
  pub done : List Rule
  pub rules : program.rules ≡ done ++ left
  pub effect : rules_effect view conn program.acls done origin ≡ Goes state

pub comes_first : {S : Type 0} (view : TableView S) (conn : Conn) (program : Rules) (origin : State S) (left : List Rule) → left ≡ program.rules → Comes view conn program origin origin left
comes_first view conn program origin left all = record { done = []; rules = sym all; effect = refl }

-- the rules after the first
abbrev pub other_rules : List Rule → List Rule
other_rules rules = take (length rules - 1) (drop 1 rules)

pub first_and_others : (rules : List Rule) (rule : Rule) → 0 < length rules → rule ≡ slice_index_or rules 0 rule → rules ≡ rule ∷ other_rules rules
first_and_others rules rule within is =
    drop-cons rules 0 rule within
    ∙ ap (λ (x : Rule). x ∷ drop 1 rules) (sym is)
    ∙ ap (λ (xs : List Rule). rule ∷ xs) (sym (take_rest rules 1))

pub no_rules_left : (rules : List Rule) → length rules < 1 → rules ≡ []
no_rules_left [] none = refl
no_rules_left (rule ∷ rules) none = absurd (omega arith)

-- the next rule to be judged
pub comes_to : {S : Type 0} {view : TableView S} {conn : Conn} {program : Rules} {origin state : State S} {left : List Rule} (rule : Rule) (others : List Rule) → Comes view conn program origin state left → left ≡ rule ∷ others → Comes view conn program origin state (rule ∷ others)
comes_to rule others at list = record {
  done = at.done;
  rules = at.rules ∙ ap (λ (xs : List Rule). at.done ++ xs) list;
  effect = at.effect;
}

-- what a rule does to a request of this connection, by the answer of the code
pub rule_does : {S : Type 0} (view : TableView S) {near conn : Conn} {acls program : Acls} (rule : Rule) (state : State S) {effect : Effect S} → near ≡ conn → acls ≡ program → effect ≡ rule_effect view near acls rule state → effect ≡ rule_effect view conn program rule state
rule_does {S} view {near} {conn} {acls} {program} rule state {effect} here same does =
    does
    ∙ ap (λ (acls : Acls). rule_effect view near acls rule state) same
    ∙ ap (λ (conn : Conn). rule_effect view conn program rule state) here

-- a rule after which the next is judged
further : {S : Type 0} {view : TableView S} {conn : Conn} {program : Rules} {origin state : State S} {rule : Rule} {left : List Rule} (next : State S) → Comes view conn program origin state (rule ∷ left) → Goes next ≡ rule_effect view conn program.acls rule state → Comes view conn program origin next left
further {S} {view} {conn} {program} {origin} {state} {rule} {left} next at goes = record {
  done = at.done ++ rule ∷ [];
  rules = at.rules ∙ sym (append_assoc at.done (rule ∷ []) left);
  effect = effect_joined view conn program.acls at.done (rule ∷ []) origin
      ∙ ap (then_rules (rules_effect view conn program.acls (rule ∷ []))) at.effect
      ∙ effect_first view conn program.acls rule [] state
      ∙ ap (then_rules (rules_effect view conn program.acls [])) (sym goes);
}

pub comes_further : {S : Type 0} {view : TableView S} {conn : Conn} {program : Rules} {origin state : State S} {rule : Rule} {left : List Rule} (next : State S) (answer : Continuation) → Comes view conn program origin state (rule ∷ left) → answer ≡ continuation.Goes → effect_of answer next ≡ rule_effect view conn program.acls rule state → Comes view conn program origin next left
comes_further next answer at is does =
    further next at (ap (λ (answer : Continuation). effect_of answer next) (sym is) ∙ does)

-- what all rules make of the first state is what those that are left make of this one
all_from : {S : Type 0} {view : TableView S} {conn : Conn} {program : Rules} {origin state : State S} {left : List Rule} → Comes view conn program origin state left → rules_effect view conn program.acls program.rules origin ≡ rules_effect view conn program.acls left state
all_from {S} {view} {conn} {program} {origin} {state} {left} at =
    ap (λ (rules : List Rule). rules_effect view conn program.acls rules origin) at.rules
    ∙ effect_joined view conn program.acls at.done left origin
    ∙ ap (then_rules (rules_effect view conn program.acls left)) at.effect

-- the state stands
pub stands_in : {S : Type 0} {view : TableView S} {conn : Conn} {program : Rules} {origin state : State S} {left : List Rule} (next : State S) → Comes view conn program origin state left → next ≡ state → StandsAt view conn program origin next.message next.vars next.tables
stands_in {S} {view} {conn} {program} {origin} {state} {left} next at same = record {
  state = state;
  reaches = record { done = at.done; left = left; rules = at.rules; effect = at.effect };
  message_is = sym (ap (λ s. s.message) same);
  vars_are = sym (ap (λ s. s.vars) same);
  tables_are = sym (ap (λ s. s.tables) same);
}

-- ---- rules that end

-- the state that an effect leaves where no rule follows is this one
abbrev pub Leaves : {S : Type 0} → State S → Effect S → Type 0
Leaves state (Goes next) = Unit {0}
Leaves state (Stops next) = next ≡ state
Leaves state (Ends given next) = next ≡ state

refused_leaves : {S : Type 0} (state : State S) (strict : Bool) (given : Verdict) → Leaves state (if strict then Ends given state else Goes state)
refused_leaves state true given = refl
refused_leaves state false given = tt

rewritten_leaves : {S : Type 0} (state next : State S) (done : Bool) (given : Verdict) → Leaves state (if done then Goes next else if state.strict then Ends given state else Goes state)
rewritten_leaves state next true given = tt
rewritten_leaves state next false given = refused_leaves state state.strict given

edit_leaves : {S : Type 0} (edit : Edit) (state : State S) → Leaves state (edit_effect edit state)
edit_leaves edit state =
    rewritten_leaves state (record state { message = edit.head }) (is_none edit.fault) verdict.Error

pub action_leaves : {S : Type 0} (view : TableView S) (conn : Conn) (does : Action) (state : State S) → Leaves state (action_effect view conn does state)
action_leaves view conn action.Allow state = refl
action_leaves view conn (action.Deny status) state = refl
action_leaves view conn (action.SetVar name expr) state = tt
action_leaves view conn (action.UnsetVar name) state = tt
action_leaves view conn (action.AddAcl table key) state = tt
action_leaves view conn (action.DelAcl table key) state = tt
action_leaves view conn (action.DelMap table key) state = tt
action_leaves view conn (action.SetMap table key value) state = tt
action_leaves view conn (action.Redirect kind format status drop_query) state = refl
action_leaves view conn (action.StrictMode on) state = tt
action_leaves view conn rewrite state =
    edit_leaves (edit_of (text_in view conn state) rewrite state.message) state

if_leaves : {S : Type 0} (state : State S) (taken : Bool) (effect : Effect S) → Leaves state effect → Leaves state (if taken then effect else Goes state)
if_leaves state true effect leaves = leaves
if_leaves state false effect leaves = tt

pub rule_leaves : {S : Type 0} (view : TableView S) (conn : Conn) (acls : Acls) (rule : Rule) (state : State S) → Leaves state (rule_effect view conn acls rule state)
rule_leaves view conn acls rule state =
    if_leaves state (is_taken_in view conn acls state rule.unless rule.cond) (action_effect view conn rule.action state) (action_leaves view conn rule.action state)

-- the last rule leaves the state as it was
pub stands_stopped : {S : Type 0} {view : TableView S} {conn : Conn} {program : Rules} {origin state : State S} {rule : Rule} {left : List Rule} (next : State S) (answer : Continuation) → Comes view conn program origin state (rule ∷ left) → answer ≡ continuation.Stops → effect_of answer next ≡ rule_effect view conn program.acls rule state → StandsAt view conn program origin next.message next.vars next.tables
stands_stopped {S} {view} {conn} {program} {origin} {state} {rule} {left} next answer at is does =
    let stops = ap (λ (answer : Continuation). effect_of answer next) (sym is) ∙ does in
    stands_in next at (rw (← stops) at (rule_leaves view conn program.acls rule state))

pub stands_ended : {S : Type 0} {view : TableView S} {conn : Conn} {program : Rules} {origin state : State S} {rule : Rule} {left : List Rule} (next : State S) (answer : Continuation) (given : Verdict) → Comes view conn program origin state (rule ∷ left) → answer ≡ continuation.Ends given → effect_of answer next ≡ rule_effect view conn program.acls rule state → StandsAt view conn program origin next.message next.vars next.tables
stands_ended {S} {view} {conn} {program} {origin} {state} {rule} {left} next answer given at is does =
    let ends = ap (λ (answer : Continuation). effect_of answer next) (sym is) ∙ does in
    stands_in next at (rw (← ends) at (rule_leaves view conn program.acls rule state))

-- ---- what is made of the request

-- by the effect of all rules
of_effect : {S : Type 0} (view : TableView S) (conn : Conn) (program : Rules) (origin : State S) (effect : Effect S) → rules_effect view conn program.acls program.rules origin ≡ effect → evaluation view conn program origin ≡ after_rules (λ after. in_state verdict_at view conn after program) effect
of_effect view conn program origin effect is =
    ap (λ effect. after_rules (λ after. in_state verdict_at view conn after program) effect) is

-- all rules were judged
pub evaluated : {S : Type 0} {view : TableView S} {conn : Conn} {program : Rules} {origin state : State S} {left : List Rule} → Comes view conn program origin state left → left ≡ [] → evaluation view conn program origin ≡ evaluation_of view conn program None state
evaluated {S} {view} {conn} {program} {origin} {state} {left} at none =
    of_effect view conn program origin (Goes state)
    (all_from at ∙ ap (λ (rules : List Rule). rules_effect view conn program.acls rules state) none)

-- the effect of all rules where one of them stops or ends them
ended : {S : Type 0} {view : TableView S} {conn : Conn} {program : Rules} {origin state : State S} {rule : Rule} {left : List Rule} (effect : Effect S) → Comes view conn program origin state (rule ∷ left) → effect ≡ rule_effect view conn program.acls rule state → rules_effect view conn program.acls program.rules origin ≡ then_rules (rules_effect view conn program.acls left) effect
ended {S} {view} {conn} {program} {origin} {state} {rule} {left} effect at is =
    all_from at
    ∙ effect_first view conn program.acls rule left state
    ∙ ap (then_rules (rules_effect view conn program.acls left)) (sym is)

pub evaluated_stopped : {S : Type 0} {view : TableView S} {conn : Conn} {program : Rules} {origin state : State S} {rule : Rule} {left : List Rule} (next : State S) (answer : Continuation) → Comes view conn program origin state (rule ∷ left) → answer ≡ continuation.Stops → effect_of answer next ≡ rule_effect view conn program.acls rule state → evaluation view conn program origin ≡ evaluation_of view conn program None next
evaluated_stopped {S} {view} {conn} {program} {origin} next answer at is does =
    of_effect view conn program origin (Stops next)
    (ended (Stops next) at (ap (λ (answer : Continuation). effect_of answer next) (sym is) ∙ does))

pub evaluated_ended : {S : Type 0} {view : TableView S} {conn : Conn} {program : Rules} {origin state : State S} {rule : Rule} {left : List Rule} (next : State S) (answer : Continuation) (given : Verdict) → Comes view conn program origin state (rule ∷ left) → answer ≡ continuation.Ends given → effect_of answer next ≡ rule_effect view conn program.acls rule state → evaluation view conn program origin ≡ evaluation_of view conn program (Some given) next
evaluated_ended {S} {view} {conn} {program} {origin} next answer given at is does =
    of_effect view conn program origin (Ends given next)
    (ended (Ends given next) at (ap (λ (answer : Continuation). effect_of answer next) (sym is) ∙ does))

-- ---- what the maker counts

-- what a rule asks for, the rules ask for
asks_for : {S : Type 0} {view : TableView S} {near conn : Conn} {program : Rules} {origin state : State S} {rule : Rule} {left : List Rule} (acls : Acls) (text : ExpressionText) → Comes view conn program origin state (rule ∷ left) → near ≡ conn → acls ≡ program.acls → RuleAsksFor view near acls rule state text → RulesAskFor view conn program origin text
asks_for {S} {view} {near} {conn} {program} {origin} {state} {rule} {left} acls text at here same asks = record {
  done = at.done;
  rule = rule;
  left = left;
  state = state;
  rules = at.rules;
  effect = at.effect;
  applies = ap (λ (acls : Acls). is_taken_in view conn acls state rule.unless rule.cond) (sym same)
      ∙ ap (λ (conn : Conn). is_taken_in view conn acls state rule.unless rule.cond) (sym here)
      ∙ asks.0;
  asks = subst (λ (conn : Conn). ActionAsksFor view conn rule.action state text) here asks.1;
}

-- a fault counts for more that may be asked for, from an earlier state that knows the same
counts_for_more : (T U : Type 0) (given : TableFault) (Asked Wider : ExpressionText → Type 0) (first before now : MakerState) → ((text : ExpressionText) → Asked text → Wider text) → before.too_large ≡ first.too_large → before.large ≡ first.large → ChangeCountsLarge {T = T} (Err given) Asked before now → ChangeCountsLarge {T = U} (Err given) Wider first now
counts_for_more T U fault.TooLarge Asked Wider first before now wider count last counts = (
  (rw (← count) counts.0),
  record {
    text = counts.1.text;
    is = counts.1.is;
    asked = wider counts.1.text counts.1.asked;
  },
)
counts_for_more T U fault.NoMemory Asked Wider first before now wider count last counts = (counts.0 ∙ count, counts.1 ∙ last)

-- a rule that failed counts as the rules do
pub rules_count : {S : Type 0} {view : TableView S} {near conn : Conn} {program : Rules} {origin state : State S} {rule : Rule} {left : List Rule} (acls : Acls) (given : TableFault) (first before now : MakerState) → Comes view conn program origin state (rule ∷ left) → near ≡ conn → acls ≡ program.acls → before.too_large ≡ first.too_large → before.large ≡ first.large → ChangeCountsLarge {T = Continuation} (Err given) (RuleAsksFor view near acls rule state) before now → ChangeCountsLarge {T = Option Decided} (Err given) (RulesAskFor view conn program origin) first now
rules_count {S} {view} {near} {conn} {program} {origin} {state} {rule} {left} acls given first before now at here same count last counts =
    counts_for_more Continuation (Option Decided) given (RuleAsksFor view near acls rule state) (RulesAskFor view conn program origin) first before now
    (λ text asks. asks_for acls text at here same asks) count last counts

-- ---- what holds of the same things

pub same_both : {A B : Type 0} (P : A → B → Type 0) (a x : A) (b y : B) → x ≡ a → y ≡ b → P a b → P x y
same_both P a x b y first second holds = rw (first, second) holds
