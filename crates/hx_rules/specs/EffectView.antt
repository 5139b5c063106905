-- What comes after a rule, as the code keeps it beside the state.
use Rattle.std.specs.Prelude.{◌≡◌, Bool, true, Option, Result, Ok, Err, if◌then◌else◌}
use Rattle.std.specs.Option.{unwrap_or}
use Rattle.hx_acl.specs.Holds.{Acls}
use Rattle.hx_ast.specs.declared.statement.Rule.{Rule}
use Rattle.hx_fetch.specs.declared.world.Conn.{Conn}
use Rattle.hx_http.specs.declared.fault.EditFault.{EditFault}
use Rattle.hx_http.specs.declared.fault.EditFault.TheVariants as fault
use Rattle.hx_outside.specs.Makers.{ExpressionText}
use Rattle.hx_text.specs.declared.fault.NoMemory.{NoMemory}
use Rattle.hx_rules.specs.declared.action.Rewrite.{Rewrite}
use Rattle.hx_rules.specs.declared.actions.Continuation.{Continuation}
use Rattle.hx_rules.specs.declared.actions.Continuation.TheVariants as continuation
use Rattle.hx_rules.specs.declared.verdict.Verdict.{Verdict}
use Rattle.hx_rules.specs.declared.verdict.Verdict.TheVariants as verdict
use Rattle.hx_rules.specs.Failures.{ActionAsksFor, is_taken_in}
use Rattle.hx_rules.specs.Formats.{text_in}
use Rattle.hx_rules.specs.ProgramView.{action_of_rewrite}
use Rattle.hx_rules.specs.Programs.{Rules}
use Rattle.hx_rules.specs.Rewrites.{Edit, edit_of}
use Rattle.hx_rules.specs.State.{in_state, State, TableView}
use Rattle.hx_rules.specs.Verdicts.{action_effect, edit_effect, Ends, Evaluation, Goes, Effect, Stops, verdict_at}

-- the effect that leaves this state
abbrev pub effect_of : {S : Type 0} → Continuation → State S → Effect S
effect_of continuation.Goes state = Goes state
effect_of continuation.Stops state = Stops state
effect_of (continuation.Ends given) state = Ends given state

-- what comes after a rewrite that was refused, in strict mode or not
abbrev pub continuation_refused : Bool → Continuation
continuation_refused strict = if strict then continuation.Ends verdict.Error else continuation.Goes

-- what comes after a rewrite that ended so, in strict mode or not
abbrev pub continuation_after : Result (Unit {0}) EditFault → Bool → Result Continuation NoMemory
continuation_after (Ok done) strict = Ok continuation.Goes
continuation_after (Err fault.NoMemory) strict = Err (record {})
continuation_after (Err _) strict = Ok (continuation_refused strict)

-- the edit that a rewriting action makes of the head in a state
abbrev pub edit_in : {S : Type 0} → TableView S → Conn → Rewrite → State S → Edit
edit_in view conn asked state =
    edit_of (text_in view conn state) (action_of_rewrite asked) state.message

-- what a rewriting action does in a state
abbrev pub rewrite_effect : {S : Type 0} → TableView S → Conn → Rewrite → State S → Effect S
rewrite_effect view conn asked state = edit_effect (edit_in view conn asked state) state

-- what a rule does in a state: its action where it is taken
abbrev pub rule_effect : {S : Type 0} → TableView S → Conn → Acls → Rule → State S → Effect S
rule_effect view conn acls rule state =
    if is_taken_in view conn acls state rule.unless rule.cond
    then action_effect view conn rule.action state
    else Goes state

-- a rule in a state is taken, and asks for this expression
abbrev pub RuleAsksFor : {S : Type 0} → TableView S → Conn → Acls → Rule → State S
    → ExpressionText → Type 0
RuleAsksFor view conn acls rule state text =
    (is_taken_in view conn acls state rule.unless rule.cond ≡ true)
    × ActionAsksFor view conn rule.action state text

-- what is made of a request whose rules of `http-request` leave this state, and give this verdict,
-- if they give one
abbrev pub evaluation_of : {S : Type 0} → TableView S → Conn → Rules → Option Verdict → State S
    → Evaluation S
evaluation_of view conn program given state =
    record {
      verdict = unwrap_or given (in_state verdict_at view conn state program);
      state = state;
    }
