-- What a record is answered whose answers are set beside a trace.
use Rattle.std.proofs.Common.{◌≡◌, ℕ, List, [], ◌++◌, inl, inr, Option, None, Some, option_map, refl, append-nil, append_assoc}
use Rattle.hx_core.specs.declared.fault.StepFault.{StepFault}
use Rattle.hx_outside.specs.Makers.{ExpressionText}
use Rattle.hx_record.specs.Record.{Items, Unknown, Done, Bad, Then}
use Rattle.hx_record.specs.declared.Event.{Event}
use Rattle.hx_record.specs.declared.Placed.{Placed}
use Rattle.hx_replay.specs.Behavior.{Behavior}
use Rattle.hx_replay.specs.Outcome.{Outcome, ReplayEnd, RecordEnd, RefusedAt}
use Rattle.hx_replay.specs.Replay.{ItemsAskFor, replay_outcome}
use Rattle.hx_trace_run.specs.AgreementView.{CheckAsksFor, CheckState, check_behavior, agreement_of}
use Rattle.hx_trace_run.proofs.AgreementLemmas.{goes_on}

-- a state beside a trace and a text
abbrev pub beside : {S : Type 0} → (trace text : List ℕ) → S → CheckState S
beside trace text state = record { state = state; agreement = agreement_of trace text }

-- the end of a replay that ends so with this text
abbrev pub check_end : {S : Type 0} → (trace text : List ℕ) → ReplayEnd S → ReplayEnd (CheckState S)
check_end trace text (RecordEnd last) = RecordEnd (beside trace text last)
check_end trace text (RefusedAt offset code) = RefusedAt offset code

-- nothing is written, and the answers of an outcome follow the text so far
abbrev pub check_outcome : {S : Type 0} → (trace text : List ℕ) → Outcome (ReplayEnd S) → Outcome (ReplayEnd (CheckState S))
check_outcome trace text outcome = record {
  answers = [];
  end = option_map (λ end. check_end trace (text ++ outcome.answers) end) outcome.end;
}

after_one : {S : Type 0} (b : Behavior S) (ends : (state : S) → b.ending state ≡ []) (trace text : List ℕ) (state : S) (placed : Placed) (rest : Items)
    (refusal : Option StepFault) → b.refusal state placed.event ≡ refusal
    → replay_outcome (check_behavior b) (beside trace (text ++ b.answer state placed.event) (b.after state placed.event)) rest
    ≡ check_outcome trace (text ++ b.answer state placed.event) (replay_outcome b (b.after state placed.event) rest)
    → replay_outcome (check_behavior b) (beside trace text state) (Then placed rest) ≡ check_outcome trace text (replay_outcome b state (Then placed rest))
unfolding replay_outcome
after_one {S} b ends trace text state placed rest None allowed later =
    rw (allowed, goes_on trace text (b.answer state placed.event), later, append_assoc text (b.answer state placed.event) (replay_outcome b (b.after state placed.event) rest).answers) refl
after_one {S} b ends trace text state placed rest (Some fault) refused later = rw refused refl

-- what the items of a record are answered, where nothing is written at its end
pub checked_replay : {S : Type 0} (b : Behavior S) (ends : (state : S) → b.ending state ≡ []) (trace text : List ℕ) (state : S) (items : Items)
    → replay_outcome (check_behavior b) (beside trace text state) items ≡ check_outcome trace text (replay_outcome b state items)
unfolding replay_outcome
checked_replay {S} b ends trace text state Unknown = refl
checked_replay {S} b ends trace text state Done = rw (ends state, append-nil text) refl
checked_replay {S} b ends trace text state (Bad offset code) = refl
checked_replay {S} b ends trace text state (Then placed rest) =
    after_one b ends trace text state placed rest (b.refusal state placed.event) refl
    (checked_replay b ends trace (text ++ b.answer state placed.event) (b.after state placed.event) rest)

-- and for which expressions they ask
pub checked_asks : {S : Type 0} (b : Behavior S) (AsksFor : S → Event → ExpressionText → Type 0) (check : CheckState S) (items : Items) (text : ExpressionText)
    → ItemsAskFor (check_behavior b) (CheckAsksFor AsksFor) check items text → ItemsAskFor b AsksFor check.state items text
checked_asks {S} b AsksFor check Unknown text asks = asks
checked_asks {S} b AsksFor check Done text asks = asks
checked_asks {S} b AsksFor check (Bad offset code) text asks = asks
checked_asks {S} b AsksFor check (Then placed rest) text (allowed, inl here) = (allowed, inl here)
checked_asks {S} b AsksFor check (Then placed rest) text (allowed, inr later) =
    (allowed, inr (checked_asks b AsksFor ((check_behavior b).after check placed.event) rest text later))
