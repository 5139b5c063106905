-- Views of the code of a replay: answers that are gathered before they are written.
use Rattle.std.specs.Prelude.{◌≡◌, ℕ, List, [], ◌++◌, Option, None, Some, option_map, Result, Ok, Err, ⊤}
use Rattle.std.specs.Io.KnownBytes.{Appends}
use Rattle.hx_core.specs.declared.fault.StepFault.{StepFault}
use Rattle.hx_core.specs.declared.fault.StepFault.TheVariants as step
use Rattle.hx_outside.specs.Log.{Log, Logs}
use Rattle.hx_outside.specs.declared.SinkFault.{SinkFault}
use Rattle.hx_outside.specs.declared.SinkFault.TheVariants as sink
use Rattle.hx_record.specs.declared.Event.{Event}
use Rattle.hx_record.specs.declared.Placed.{Placed}
use Rattle.hx_record.specs.declared.RecordFault.{RecordFault}
use Rattle.hx_record.specs.declared.RecordFault.TheVariants as reader
use Rattle.hx_replay.specs.Behavior.{Behavior}
use Rattle.hx_replay.specs.Outcome.{Outcome, ReplayEnd, RecordEnd, RefusedAt}
use Rattle.hx_replay.specs.Records.{IsRecord, refusal_code}
use Rattle.hx_replay.specs.Replay.{record_outcome}
use Rattle.hx_replay.specs.declared.replay_fault.ReplayFault.{ReplayFault}
use Rattle.hx_replay.specs.declared.replay_fault.ReplayFault.TheVariants.{RecordRefused, Source, Sink, TooLarge, NoMemory}

-- of a text the first bytes were written, the next are gathered, and the rest is lost
pub record Passes (old new : Option (List ℕ)) (text gathered rest : List ℕ) : Type 0 where
  pub wrote : List ℕ
  pub appended : Appends old new wrote
  pub whole : text ≡ wrote ++ (gathered ++ rest)

-- these are the answers of an outcome up to an end: all of them where it ends so, and a prefix of
-- them where its end is not decided
abbrev pub AreAnswersTo : {E : Type 0} → Option E → Outcome E → List ℕ → Type 0
AreAnswersTo None outcome answers = (rest : List ℕ) × (outcome.answers ≡ answers ++ rest)
AreAnswersTo (Some end) outcome answers =
    (outcome.end ≡ Some end) × (outcome.answers ≡ answers)

-- A run, or a part of one, up to an end or to one that is not decided. It has an outcome of this
-- kind, of whose answers the first are written and the next are gathered: all of them where it ends
-- as the outcome does.
pub record WritesOutcome {E : Type 0} (IsSuch : Outcome E → Type 0) (old new : Option (List ℕ))
    (gathered : List ℕ) (end : Option E) : Type 0 where
  pub outcome : Outcome E
  pub is_such : IsSuch outcome
  pub wrote : List ℕ
  pub appended : Appends old new wrote
  pub answers : AreAnswersTo end outcome (wrote ++ gathered)

-- this is the outcome of the record that a source has left, where each record has this one
pub record IsOfRecord {E : Type 0} (outcome_of : List ℕ → Outcome E) (left : Option (List ℕ))
    (outcome : Outcome E) : Type 0 where
  pub bytes : List ℕ
  pub of_source : IsRecord left bytes
  pub is : outcome ≡ outcome_of bytes

-- the end of a replay that comes to this, with this last state; where something outside failed, or
-- memory ran out, the record doesn't decide it
abbrev pub replay_end : {S : Type 0} → S → Result (Unit {0}) ReplayFault → Option (ReplayEnd S)
replay_end last (Ok _) = Some (RecordEnd last)
replay_end last (Err (RecordRefused offset code)) = Some (RefusedAt offset code)
replay_end last (Err _) = None

-- a replay of the record that a source has left, from the one state to the other
abbrev pub Replays : {S : Type 0} → Behavior S → (start last : S) → (left old new : Option (List ℕ))
    → (gathered : List ℕ) → Result (Unit {0}) ReplayFault → Type 0
Replays b start last left old new gathered result =
    WritesOutcome (IsOfRecord (record_outcome b start) left) old new gathered
    (replay_end last result)

-- What an event gathers: the state goes on, and the answer follows those before it. One that may
-- not stand where it stands has no answer. Where memory runs out, or an expression is too large, it
-- may stand there, and the answers are as before.
abbrev pub GathersAnswer : {S : Type 0} → Behavior S → (before after : S) → Event
    → (old new : List ℕ) → Result (Unit {0}) StepFault → Type 0
GathersAnswer b before after event old new (Ok _) =
    (b.refusal before event ≡ None) × (after ≡ b.after before event)
    × (new ≡ old ++ b.answer before event)
GathersAnswer b before after event old new (Err step.UnknownConn) =
    (b.refusal before event ≡ Some step.UnknownConn) × (new ≡ old)
GathersAnswer b before after event old new (Err step.ConnOpen) =
    (b.refusal before event ≡ Some step.ConnOpen) × (new ≡ old)
GathersAnswer b before after event old new (Err step.TooLarge) =
    (b.refusal before event ≡ None) × (new ≡ old)
GathersAnswer b before after event old new (Err step.NoMemory) =
    (b.refusal before event ≡ None) × (new ≡ old)

-- What one event changes: its answer follows those that are gathered, of which the first ones may
-- be written, and the state goes on. Or it may not stand here. Or a part of these answers is lost.
abbrev pub AnswersEvent : {S : Type 0} → Behavior S → (before after : S) → Placed
    → (old new : Option (List ℕ)) → (gathered gathered' : List ℕ)
    → Result (Unit {0}) ReplayFault → Type 0
AnswersEvent b before after placed old new gathered gathered' (Ok _) =
    (b.refusal before placed.event ≡ None) × (after ≡ b.after before placed.event)
    × Passes old new (gathered ++ b.answer before placed.event) gathered' []
AnswersEvent b before after placed old new gathered gathered' (Err (RecordRefused offset code)) =
    (option_map refusal_code (b.refusal before placed.event) ≡ Some code)
    × (offset ≡ placed.offset) × Appends old new [] × (gathered' ≡ gathered)
AnswersEvent b before after placed old new gathered gathered' (Err _) =
    (b.refusal before placed.event ≡ None)
    × ((rest : List ℕ)
    × Passes old new (gathered ++ b.answer before placed.event) gathered' rest)

-- ---- faults

-- the fault of a replay whose record has this one
abbrev pub fault_of_reader : RecordFault → ReplayFault
fault_of_reader (reader.Bad offset code) = RecordRefused offset code
fault_of_reader reader.Failed = Source
fault_of_reader reader.NoMemory = NoMemory

-- the same of the sink
abbrev pub fault_of_sink : SinkFault → ReplayFault
fault_of_sink sink.Failed = Sink
fault_of_sink sink.NoMemory = NoMemory

-- no refusal: something outside failed, or memory ran out
abbrev pub IsFailure : ReplayFault → Type 0
IsFailure (RecordRefused offset code) = ⊥
IsFailure TooLarge = ⊥
IsFailure _ = ⊤

-- what a read adds to the log that ends with this fault: a failure where the source failed, and
-- else nothing, since the fault came before the read
abbrev pub LogsFailure : ReplayFault → (log log' : Option Log) → Type 0
LogsFailure Source log log' = Logs log log' None
LogsFailure _ log log' = log' ≡ log
