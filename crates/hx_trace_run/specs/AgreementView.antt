-- Views of the code: a trace beside the text so far, and what sets the answers to the events of a
-- record beside it.
use Rattle.std.specs.Prelude.{ℕ, ◌+◌, ◌||◌, Bool, List, [], drop, length, nat_lt, take, if◌then◌else◌}
use Rattle.hx_outside.specs.Makers.{ExpressionText}
use Rattle.hx_record.specs.declared.Event.{Event}
use Rattle.hx_replay.specs.Behavior.{Behavior}
use Rattle.hx_trace_run.specs.Comparing.{common_length, line_feeds}
use Rattle.hx_trace_run.specs.declared.agreement.Finding.{Finding}
use Rattle.hx_trace_run.specs.declared.agreement.Finding.TheVariants.{Same, Differs}

-- a trace, how many of its bytes the text so far has in common with it, and whether there are more
-- in the text
pub record Agreement : Type 0 where
  pub trace : List ℕ
  pub agreed : ℕ
  pub differs : Bool

-- a trace beside a text
abbrev pub agreement_of : (trace text : List ℕ) → Agreement
agreement_of trace text = record {
  trace = trace;
  agreed = common_length trace text;
  differs = nat_lt (common_length trace text) (length text);
}

-- the same trace beside the text with this answer after it
abbrev pub agreement_after : Agreement → (answer : List ℕ) → Agreement
agreement_after c answer =
    let common = common_length (drop c.agreed c.trace) answer in
    if c.differs then c else record {
      trace = c.trace;
      agreed = c.agreed + common;
      differs = nat_lt common (length answer);
    }

-- what is found where the text ends here
abbrev pub finding_at : Agreement → Finding
finding_at c =
    if c.differs || nat_lt c.agreed (length c.trace)
    then Differs (line_feeds (take c.agreed c.trace) + 1)
    else Same

-- what is known between two events: what answers them knows, and the trace beside the text so far
pub record CheckState (S : Type 0) : Type 0 where
  pub state : S
  pub agreement : Agreement

-- before the first event
abbrev pub initial_check : {S : Type 0} → (trace : List ℕ) → S → CheckState S
initial_check trace state = record { state = state; agreement = agreement_of trace [] }

-- what sets the answers to events beside a trace, and writes nothing
abbrev pub check_behavior : {S : Type 0} → Behavior S → Behavior (CheckState S)
check_behavior b = record {
  refusal = λ check event. b.refusal check.state event;
  answer = λ check event. [];
  after = λ check event. record {
    state = b.after check.state event;
    agreement = agreement_after check.agreement (b.answer check.state event);
  };
  ending = λ check. [];
}

-- what answers events asks for this expression at one
abbrev pub CheckAsksFor : {S : Type 0} → (S → Event → ExpressionText → Type 0) → CheckState S
    → Event → ExpressionText → Type 0
CheckAsksFor AsksFor check event text = AsksFor check.state event text
