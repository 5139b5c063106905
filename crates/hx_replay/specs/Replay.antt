-- What a record is answered, event by event.
use Rattle.std.specs.Prelude.{◌≡◌, ℕ, List, ◌++◌, Option, None, Some, IsSomeAnd, ◌⊎◌}
use Rattle.std.specs.Io.KnownBytes.{Appends, Consumes}
use Rattle.hx_core.specs.declared.fault.StepFault.{StepFault}
use Rattle.hx_outside.specs.Log.{Log}
use Rattle.hx_outside.specs.Makers.{ExpressionText}
use Rattle.hx_record.specs.Record.{Items, Unknown, Done, Bad, Then, record_items, decided_items}
use Rattle.hx_record.specs.declared.Event.{Event}
use Rattle.hx_replay.specs.Behavior.{Behavior}
use Rattle.hx_replay.specs.Outcome.{Outcome, ReplayEnd, RecordEnd, RefusedAt, after_answers, ends_with}
use Rattle.hx_replay.specs.Records.{HoldsBeforeLastRead, IsRecord, record_limit, refusal_code}

-- an event at an offset: its answer and then what follows, or its refusal
abbrev pub event_outcome : {S : Type 0} → Option StepFault → ℕ → List ℕ → Outcome (ReplayEnd S)
    → Outcome (ReplayEnd S)
event_outcome None offset answer following = after_answers answer following
event_outcome (Some refusal) offset answer following =
    ends_with (Some (RefusedAt offset (refusal_code refusal)))

-- what the items of a record are answered from a state on
unfoldable pub replay_outcome : {S : Type 0} → Behavior S → S → Items → Outcome (ReplayEnd S)
replay_outcome b state Unknown = ends_with None
replay_outcome b state Done = record { answers = b.ending state; end = Some (RecordEnd state) }
replay_outcome b state (Bad offset code) = ends_with (Some (RefusedAt offset code))
replay_outcome b state (Then placed rest) =
    event_outcome (b.refusal state placed.event) placed.offset (b.answer state placed.event)
    (replay_outcome b (b.after state placed.event) rest)

-- what a whole record is answered
abbrev pub record_outcome : {S : Type 0} → Behavior S → S → List ℕ → Outcome (ReplayEnd S)
record_outcome b start bytes = replay_outcome b start (record_items bytes record_limit)

-- what the first bytes of a record are answered, whatever follows them
abbrev pub decided_outcome : {S : Type 0} → Behavior S → S → List ℕ → Outcome (ReplayEnd S)
decided_outcome b start bytes = replay_outcome b start (decided_items bytes record_limit)

-- Exactly the answers were written to the events that the bytes taken from the source decide,
-- whatever would have followed them. None of those events is refused, nor is the record by these
-- bytes.
pub record WritesDecided {S : Type 0} (b : Behavior S) (start : S)
    (left left' old new : Option (List ℕ)) : Type 0 where
  pub took : List ℕ
  pub consumed : Consumes left left' took
  pub going_on : (decided_outcome b start took).end ≡ None
  pub written : Appends old new (decided_outcome b start took).answers

-- what was written begins with all answers to the events that these first bytes of a record decide,
-- whatever follows them
pub record BeginsWithDecided {S : Type 0} (b : Behavior S) (start : S) (bytes : List ℕ)
    (old new : Option (List ℕ)) : Type 0 where
  pub rest : List ℕ
  pub written : Appends old new ((decided_outcome b start bytes).answers ++ rest)

-- What is decided is written before more is read: what was written begins with all answers to the
-- events that the bytes of all reads but the last decide.
abbrev pub WritesBeforeReading : {S : Type 0} → Behavior S → S → (log log' : Option Log)
    → (old new : Option (List ℕ)) → Type 0
WritesBeforeReading b start log log' old new =
    HoldsBeforeLastRead log log' (λ bytes. BeginsWithDecided b start bytes old new)

-- one of the items of a record asks for this expression, with no refusal before it
abbrev pub ItemsAskFor : {S : Type 0} → Behavior S → (S → Event → ExpressionText → Type 0) → S
    → Items → ExpressionText → Type 0
ItemsAskFor b AsksFor state Unknown text = ⊥
ItemsAskFor b AsksFor state Done text = ⊥
ItemsAskFor b AsksFor state (Bad offset code) text = ⊥
ItemsAskFor b AsksFor state (Then placed rest) text =
    (b.refusal state placed.event ≡ None)
    × (AsksFor state placed.event text
    ⊎ ItemsAskFor b AsksFor (b.after state placed.event) rest text)

-- the last text that was too large for a maker is one for which an event asks of the record that a
-- source has left
pub record ReplayAsksLast {S : Type 0} (b : Behavior S)
    (AsksFor : S → Event → ExpressionText → Type 0) (start : S) (left : Option (List ℕ))
    (large : Option ExpressionText) : Type 0 where
  pub bytes : List ℕ
  pub of_source : IsRecord left bytes
  pub asks : IsSomeAnd large (ItemsAskFor b AsksFor start (record_items bytes record_limit))
