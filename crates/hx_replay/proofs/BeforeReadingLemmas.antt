-- What is decided is written before more is read: at each end of a replay.
use Rattle.std.proofs.Common.{◌≡◌, ℕ, false, List, [], Option, None, Ok, Err, refl, sym, subst}
use Rattle.std.specs.Io.KnownBytes.{Appends}
use Rattle.hx_outside.specs.Log.{Log}
use Rattle.hx_outside.specs.Makers.{ExpressionText}
use Rattle.hx_outside.specs.Prefixes.{AppendsPrefix}
use Rattle.hx_outside.specs.declared.SinkFault.{SinkFault}
use Rattle.hx_outside.specs.declared.SinkFault.TheVariants as sink
use Rattle.hx_record.specs.Record.{Unknown}
use Rattle.hx_record.specs.State.{State, decided_items_now}
use Rattle.hx_record.specs.Reading.{LogsFault}
use Rattle.hx_record.specs.declared.Event.{Event}
use Rattle.hx_record.specs.declared.Next.TheVariants as next
use Rattle.hx_record.specs.declared.Placed.{Placed}
use Rattle.hx_record.specs.declared.RecordFault.{RecordFault}
use Rattle.hx_record.specs.declared.RecordFault.TheVariants as reader
use Rattle.hx_replay.specs.Behavior.{Behavior}
use Rattle.hx_replay.proofs.LogLemmas.{before_read}
use Rattle.hx_replay.specs.Gathering.{AnswersEvent, LogsFailure, fault_of_reader, fault_of_sink}
use Rattle.hx_replay.specs.Replay.{BeginsWithDecided, WritesBeforeReading}
use Rattle.hx_replay.specs.declared.replay_fault.ReplayFault.{ReplayFault}
use Rattle.hx_replay.specs.declared.replay_fault.ReplayFault.TheVariants as replay
use Rattle.hx_replay.proofs.WrittenLemmas.{written_more}
use Rattle.hx_replay.proofs.ReplayLemmas.{decided_written, Answer, Progress}

-- reading more failed: all that is decided was written before the read, or there was none
pub before_failure : {S : Type 0} → (AsksFor : S → Event → ExpressionText → Type 0) (b : Behavior S) (start state : S) (s : State) (left left' : Option (List ℕ)) (log log' log'' : Option Log)
    (old new new' : Option (List ℕ)) (gathered : List ℕ) → Progress AsksFor (Answer (Ok next.Undecided)) b start state s left left' log log' old new gathered → s.ended ≡ false
    → decided_items_now s ≡ Unknown → (fault : ReplayFault) → LogsFailure fault log' log'' → (fault ≡ replay.Source → Appends new new' gathered)
    → AppendsPrefix new new' gathered → WritesBeforeReading b start log log'' old new'
before_failure {S} AsksFor b start state s left left' log log' log'' old new new' gathered p going undecided fault logs appended part = go fault logs appended
  where
    later : log'' ≡ log' → WritesBeforeReading b start log log'' old new'
    later same = subst (λ (l : Option Log). WritesBeforeReading b start log l old new') (sym same)
        (written_more b start log log' old new new' part.prefix p.before_reading part.appended)

    go : (fault : ReplayFault) → LogsFailure fault log' log'' → (fault ≡ replay.Source → Appends new new' gathered) → WritesBeforeReading b start log log'' old new'
    go replay.Source logs appended =
        before_read log log' log'' None p.took (λ bytes. BeginsWithDecided b start bytes old new') p.given logs
        (decided_written AsksFor b start state s left left' old new new' gathered p going undecided (appended refl))
    go (replay.RecordRefused offset code) same appended = later same
    go replay.Sink same appended = later same
    go replay.TooLarge same appended = later same
    go replay.NoMemory same appended = later same

-- what a fault of the reader, or of the sink before the read, adds to the log
pub reader_logs : (fault : RecordFault) (log log' : Option Log) → LogsFault fault log log' → LogsFailure (fault_of_reader fault) log log'
reader_logs (reader.Bad offset code) log log' logs = absurd logs
reader_logs reader.Failed log log' logs = logs
reader_logs reader.NoMemory log log' same = same

pub sink_logs : (fault : SinkFault) (log : Option Log) → LogsFailure (fault_of_sink fault) log log
sink_logs sink.Failed log = refl
sink_logs sink.NoMemory log = refl

-- an event that ends the replay writes only more
pub event_writes : {S : Type 0} → (b : Behavior S) (start state after : S) (placed : Placed) (log log' : Option Log) (old new new' : Option (List ℕ))
    (gathered gathered' : List ℕ) (fault : ReplayFault) → AnswersEvent b state after placed new new' gathered gathered' (Err fault)
    → WritesBeforeReading b start log log' old new → WritesBeforeReading b start log log' old new'
event_writes {S} b start state after placed log log' old new new' gathered gathered' (replay.RecordRefused offset code) (refused, here, nothing, stays) so_far =
    written_more b start log log' old new new' [] so_far nothing
event_writes {S} b start state after placed log log' old new new' gathered gathered' replay.Source event so_far =
    written_more b start log log' old new new' event.1.1.wrote so_far event.1.1.appended
event_writes {S} b start state after placed log log' old new new' gathered gathered' replay.Sink event so_far =
    written_more b start log log' old new new' event.1.1.wrote so_far event.1.1.appended
event_writes {S} b start state after placed log log' old new new' gathered gathered' replay.TooLarge event so_far =
    written_more b start log log' old new new' event.1.1.wrote so_far event.1.1.appended
event_writes {S} b start state after placed log log' old new new' gathered gathered' replay.NoMemory event so_far =
    written_more b start log log' old new new' event.1.1.wrote so_far event.1.1.appended

-- the answers that were gathered are written at the end, or a prefix of them
pub gathered_written : {S : Type 0} → (b : Behavior S) (start : S) (log log' : Option Log) (old new new' : Option (List ℕ)) (gathered : List ℕ)
    → WritesBeforeReading b start log log' old new → AppendsPrefix new new' gathered → WritesBeforeReading b start log log' old new'
gathered_written {S} b start log log' old new new' gathered so_far part =
    written_more b start log log' old new new' part.prefix so_far part.appended
