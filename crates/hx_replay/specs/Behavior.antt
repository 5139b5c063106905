-- What something does that answers the events of a record, whatever it is: over what it knows
-- between two events, its state.
use Rattle.std.specs.Prelude.{◌≡◌, ℕ, List, [], ◌∷◌, ◌++◌, Option, None}
use Rattle.hx_core.specs.declared.fault.StepFault.{StepFault}
use Rattle.hx_record.specs.declared.Event.{Event}

-- Of an event in a state: why it may not stand there, if it may not, what is written of it at once,
-- and the state after it. And what is written at the record's end.
pub record Behavior (S : Type 0) : Type 0 where
  pub refusal : S → Event → Option StepFault
  pub answer : S → Event → List ℕ
  pub after : S → Event → S
  pub ending : S → List ℕ

-- the answers to events in order, one after the other
abbrev pub answers_to : {S : Type 0} → Behavior S → S → List Event → List ℕ
answers_to b state [] = []
answers_to b state (event ∷ rest) =
    b.answer state event ++ answers_to b (b.after state event) rest

-- the state after events in order
abbrev pub state_after : {S : Type 0} → Behavior S → S → List Event → S
state_after b state [] = state
state_after b state (event ∷ rest) = state_after b (b.after state event) rest

-- each event may stand where it stands
abbrev pub AreAllowed : {S : Type 0} → Behavior S → S → List Event → Type 0
AreAllowed b state [] = Unit {0}
AreAllowed b state (event ∷ events) =
    (b.refusal state event ≡ None) × AreAllowed b (b.after state event) events
