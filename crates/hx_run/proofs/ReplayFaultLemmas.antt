-- What a run comes to whose replay comes to its end or to a fault.
use Rattle.std.proofs.Common.{◌≡◌, ℕ, [], ◌++◌, List, Option, option_map, Result, Ok, Err, IfErr, OnOk, refl, ap}
use Rattle.hx_core.specs.World.{World}
use Rattle.hx_replay.specs.Gathering.{IsOfRecord, Replays, WritesOutcome, replay_end}
use Rattle.hx_replay.specs.Outcome.{Outcome, ReplayEnd, with_end}
use Rattle.hx_replay.specs.Program.{initial_world, Program}
use Rattle.hx_replay.specs.declared.replay_fault.ReplayFault.{ReplayFault}
use Rattle.hx_replay.specs.declared.replay_fault.ReplayFault.TheVariants as replay
use Rattle.hx_replay.proofs.OutcomeLemmas.{answers_with_end}
use Rattle.hx_run.specs.Outcome.{run_end}
use Rattle.hx_run.specs.Run.{accepted_outcome, behavior_of}
use Rattle.hx_run.specs.RunFault.{IsReplayFault, result_end, run_result}
use Rattle.hx_run.specs.declared.command.Detail.{Detail}
use Rattle.hx_run.specs.declared.command.Task.TheVariants as task
use Rattle.hx_run.specs.declared.run_fault.RunFault.TheVariants as run

ended : (last : World) (replayed : Result (Unit {0}) ReplayFault) → option_map run_end (replay_end last replayed) ≡ result_end (run_result replayed)
ended last (Ok done) = refl
ended last (Err (replay.RecordRefused offset code)) = refl
ended last (Err replay.Source) = refl
ended last (Err replay.Sink) = refl
ended last (Err replay.TooLarge) = refl
ended last (Err replay.NoMemory) = refl

-- the outcome of a replay is one of the run
pub run_writes : (detail : Detail) (program : Program) (last : World) (left old new : Option (List ℕ)) (replayed : Result (Unit {0}) ReplayFault)
    → Replays (behavior_of detail) (initial_world program) last left old new [] replayed
    → WritesOutcome (IsOfRecord (accepted_outcome (task.Replay detail) program) left) old new [] (result_end (run_result replayed))
run_writes detail program last left old new replayed r = record {
  outcome = with_end run_end r.outcome;
  is_such = record {
    bytes = r.is_such.bytes;
    of_source = r.is_such.of_source;
    is = ap (λ (o : Outcome (ReplayEnd World)). with_end run_end o) r.is_such.is;
  };
  wrote = r.wrote;
  appended = r.appended;
  answers = rw (← ended last replayed) (answers_with_end run_end (replay_end last replayed) r.outcome (r.wrote ++ []) r.answers);
}

-- which fault of the replay it was
pub source_of : (replayed : Result (Unit {0}) ReplayFault) → run_result replayed ≡ Err run.Source → replayed ≡ Err replay.Source
source_of (Ok done) is = cc
source_of (Err (replay.RecordRefused offset code)) is = cc
source_of (Err replay.Source) is = refl
source_of (Err replay.Sink) is = cc
source_of (Err replay.TooLarge) is = cc
source_of (Err replay.NoMemory) is = cc

pub sink_of : (replayed : Result (Unit {0}) ReplayFault) → run_result replayed ≡ Err run.Sink → replayed ≡ Err replay.Sink
sink_of (Ok done) is = cc
sink_of (Err (replay.RecordRefused offset code)) is = cc
sink_of (Err replay.Source) is = cc
sink_of (Err replay.Sink) is = refl
sink_of (Err replay.TooLarge) is = cc
sink_of (Err replay.NoMemory) is = cc

pub too_large_of : (replayed : Result (Unit {0}) ReplayFault) → run_result replayed ≡ Err run.TooLarge → replayed ≡ Err replay.TooLarge
too_large_of (Ok done) is = cc
too_large_of (Err (replay.RecordRefused offset code)) is = cc
too_large_of (Err replay.Source) is = cc
too_large_of (Err replay.Sink) is = cc
too_large_of (Err replay.TooLarge) is = refl
too_large_of (Err replay.NoMemory) is = cc

-- it is none of a configuration or a file
pub replay_kind : (replayed : Result (Unit {0}) ReplayFault) → IfErr (run_result replayed) IsReplayFault
replay_kind (Ok done) = tt
replay_kind (Err (replay.RecordRefused offset code)) = tt
replay_kind (Err replay.Source) = tt
replay_kind (Err replay.Sink) = tt
replay_kind (Err replay.TooLarge) = tt
replay_kind (Err replay.NoMemory) = tt

-- what holds at the record's end of a replay holds at that of the run
pub at_end_of : (P : Type 0) (replayed : Result (Unit {0}) ReplayFault) → OnOk replayed P → OnOk (run_result replayed) P
at_end_of P (Ok done) there = there
at_end_of P (Err fault) there = tt
