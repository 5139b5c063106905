-- What stands after a request: a state to which the rules of `http-request` come.
use Rattle.std.proofs.Common.{◌≡◌, Bool, true, false, List, [], ◌∷◌, ◌++◌, refl, ap, sym, subst, ◌∙◌, append_assoc}
use Rattle.std.specs.Prelude.{Result, Ok, Err, OnErr, if◌then◌else◌}
use Rattle.hx_ast.specs.declared.statement.Rule.{Rule}
use Rattle.hx_fetch.specs.declared.world.Conn.{Conn}
use Rattle.hx_http.specs.Parts.{Parts}
use Rattle.hx_rules.proofs.RuleLemmas.{action_leaves, Comes, comes_first, effect_first, effect_joined, Leaves, stands_in}
use Rattle.hx_rules.specs.declared.verdict.Verdict.{Verdict}
use Rattle.hx_rules.specs.EffectView.{rule_effect}
use Rattle.hx_rules.specs.Failures.{is_taken_in, StandsAt}
use Rattle.hx_rules.specs.Programs.{Rules}
use Rattle.hx_rules.specs.State.{in_state, State, TableView}
use Rattle.hx_rules.specs.Verdicts.{action_effect, after_rules, Effect, Ends, evaluation, Goes, rules_effect, Stops, then_rules, verdict_at}
use Rattle.hx_sample.specs.Vars.{Scopes}

-- a rule that ends the rules changes nothing
leaves_if : {S : Type 0} (state : State S) (taken : Bool) (effect : Effect S) → Leaves state effect → Leaves state (if taken then effect else Goes state)
leaves_if state true effect leaves = leaves
leaves_if state false effect leaves = tt

rule_leaves : {S : Type 0} (view : TableView S) (conn : Conn) (program : Rules) (rule : Rule) (state : State S) → Leaves state (rule_effect view conn program.acls rule state)
rule_leaves view conn program rule state =
    leaves_if state (is_taken_in view conn program.acls state rule.unless rule.cond) (action_effect view conn rule.action state) (action_leaves view conn rule.action state)

-- the rules come to the state that an effect leaves
abbrev LeavesStanding : {S : Type 0} → TableView S → Conn → Rules → State S → (State S → Verdict) → Effect S → Type 0
LeavesStanding view conn program origin later effect =
    let last = (after_rules later effect).state in
    StandsAt view conn program origin last.message last.vars last.tables

module _ {S : Type 0} (view : TableView S) (conn : Conn) (program : Rules) (origin : State S) (later : State S → Verdict) where
  -- a rule after which the next is judged
  further : (state next : State S) (rule : Rule) (left : List Rule) → Comes view conn program origin state (rule ∷ left) → Goes next ≡ rule_effect view conn program.acls rule state → Comes view conn program origin next left
  further state next rule left at goes = record {
    done = at.done ++ rule ∷ [];
    rules = at.rules ∙ sym (append_assoc at.done (rule ∷ []) left);
    effect = effect_joined view conn program.acls at.done (rule ∷ []) origin
        ∙ ap (then_rules (rules_effect view conn program.acls (rule ∷ []))) at.effect
        ∙ effect_first view conn program.acls rule [] state
        ∙ ap (then_rules (rules_effect view conn program.acls [])) (sym goes);
  }

  -- by what the first of the rules that are left does
  first_leaves : (state : State S) (rule : Rule) (left : List Rule) → ((next : State S) → Comes view conn program origin next left → LeavesStanding view conn program origin later (rules_effect view conn program.acls left next)) → Comes view conn program origin state (rule ∷ left) → (effect : Effect S) → effect ≡ rule_effect view conn program.acls rule state → Leaves state effect → LeavesStanding view conn program origin later (then_rules (rules_effect view conn program.acls left) effect)
  first_leaves state rule left rest at (Goes next) is leaves =
      rest next (further state next rule left at is)
  first_leaves state rule left rest at (Stops next) is leaves = stands_in next at leaves
  first_leaves state rule left rest at (Ends given next) is leaves = stands_in next at leaves

  left_standing : (left : List Rule) (state : State S) → Comes view conn program origin state left → LeavesStanding view conn program origin later (rules_effect view conn program.acls left state)
  left_standing [] state at = stands_in state at refl
  left_standing (rule ∷ left) state at =
      subst (LeavesStanding view conn program origin later) (sym (effect_first view conn program.acls rule left state))
      (first_leaves state rule left (left_standing left) at (rule_effect view conn program.acls rule state) refl (rule_leaves view conn program rule state))

-- what an evaluation leaves stands
stands_after : {S : Type 0} (view : TableView S) (conn : Conn) (program : Rules) (origin : State S) → (let last = (evaluation view conn program origin).state in StandsAt view conn program origin last.message last.vars last.tables)
stands_after view conn program origin =
    left_standing view conn program origin (λ after. in_state verdict_at view conn after program) program.rules origin
    (comes_first view conn program origin program.rules refl)

-- where a call fails that changes nothing of what an evaluation left
pub stands_where_failed : {S T E : Type 0} (view : TableView S) (conn : Conn) (program : Rules) (origin : State S) (message : Parts) (vars : Scopes) (tables : S) (result : Result T E)
    → (let last = (evaluation view conn program origin).state in message ≡ last.message → vars ≡ last.vars → tables ≡ last.tables → OnErr result (StandsAt view conn program origin message vars tables))
stands_where_failed view conn program origin message vars tables (Ok value) same_message same_vars same_tables = tt
stands_where_failed view conn program origin message vars tables (Err fault) same_message same_vars same_tables =
    let stands = stands_after view conn program origin in
    record {
      state = stands.state;
      reaches = stands.reaches;
      message_is = stands.message_is ∙ sym same_message;
      vars_are = stands.vars_are ∙ sym same_vars;
      tables_are = stands.tables_are ∙ sym same_tables;
    }
