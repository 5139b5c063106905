-- What a run comes to whose replay comes to its end or to a fault.
use Rattle.std.proofs.Common.{Bool, ◌≡◌, ℕ, [], ◌++◌, List, Option, option_map, Result, Ok, Err, IfErr, OnOk, refl, ap}
use Rattle.hx_replay.specs.Gathering.{IsOfRecord, Replays, WritesOutcome, replay_end}
use Rattle.hx_replay.specs.Outcome.{Outcome, ReplayEnd, with_end}
use Rattle.hx_replay.specs.declared.replay_fault.ReplayFault.{ReplayFault}
use Rattle.hx_replay.specs.declared.replay_fault.ReplayFault.TheVariants as replay
use Rattle.hx_replay.proofs.OutcomeLemmas.{answers_with_end}
use Rattle.hx_diff.specs.Outcome.{run_end}
use Rattle.hx_diff.specs.Comparison.{Comparison, Programs, comparison_behavior, initial_comparison}
use Rattle.hx_diff.specs.Run.{compared_outcome}
use Rattle.hx_diff.specs.RunFault.{IsReplayFault, result_end, run_result}
use Rattle.hx_diff.specs.Tally.{some_differ}
use Rattle.hx_diff.specs.declared.run_fault.RunFault.TheVariants as run

ended : (last : Comparison) (replayed : Result (Unit {0}) ReplayFault)
    → option_map run_end (replay_end last replayed) ≡ result_end (run_result (some_differ last.report.tally) replayed)
ended last (Ok done) = refl
ended last (Err (replay.RecordRefused offset code)) = refl
ended last (Err replay.Source) = refl
ended last (Err replay.Sink) = refl
ended last (Err replay.TooLarge) = refl
ended last (Err replay.NoMemory) = refl

-- the outcome of a replay is one of the run
pub run_writes : (programs : Programs) (last : Comparison) (left old new : Option (List ℕ)) (replayed : Result (Unit {0}) ReplayFault)
    → Replays comparison_behavior (initial_comparison programs) last left old new [] replayed
    → WritesOutcome (IsOfRecord (compared_outcome programs) left) old new [] (result_end (run_result (some_differ last.report.tally) replayed))
run_writes programs last left old new replayed r = record {
  outcome = with_end run_end r.outcome;
  is_such = record {
    bytes = r.is_such.bytes;
    of_source = r.is_such.of_source;
    is = ap (λ (o : Outcome (ReplayEnd Comparison)). with_end run_end o) r.is_such.is;
  };
  wrote = r.wrote;
  appended = r.appended;
  answers = rw (← ended last replayed) (answers_with_end run_end (replay_end last replayed) r.outcome (r.wrote ++ []) r.answers);
}

-- which fault of the replay it was
pub source_of : (differs : Bool) (replayed : Result (Unit {0}) ReplayFault) → run_result differs replayed ≡ Err run.Source → replayed ≡ Err replay.Source
source_of differs (Ok done) is = cc
source_of differs (Err (replay.RecordRefused offset code)) is = cc
source_of differs (Err replay.Source) is = refl
source_of differs (Err replay.Sink) is = cc
source_of differs (Err replay.TooLarge) is = cc
source_of differs (Err replay.NoMemory) is = cc

pub sink_of : (differs : Bool) (replayed : Result (Unit {0}) ReplayFault) → run_result differs replayed ≡ Err run.Sink → replayed ≡ Err replay.Sink
sink_of differs (Ok done) is = cc
sink_of differs (Err (replay.RecordRefused offset code)) is = cc
sink_of differs (Err replay.Source) is = cc
sink_of differs (Err replay.Sink) is = refl
sink_of differs (Err replay.TooLarge) is = cc
sink_of differs (Err replay.NoMemory) is = cc

pub too_large_of : (differs : Bool) (replayed : Result (Unit {0}) ReplayFault) → run_result differs replayed ≡ Err run.TooLarge → replayed ≡ Err replay.TooLarge
too_large_of differs (Ok done) is = cc
too_large_of differs (Err (replay.RecordRefused offset code)) is = cc
too_large_of differs (Err replay.Source) is = cc
too_large_of differs (Err replay.Sink) is = cc
too_large_of differs (Err replay.TooLarge) is = refl
too_large_of differs (Err replay.NoMemory) is = cc

-- it is none of a configuration or a file
pub replay_kind : (differs : Bool) (replayed : Result (Unit {0}) ReplayFault) → IfErr (run_result differs replayed) IsReplayFault
replay_kind differs (Ok done) = tt
replay_kind differs (Err (replay.RecordRefused offset code)) = tt
replay_kind differs (Err replay.Source) = tt
replay_kind differs (Err replay.Sink) = tt
replay_kind differs (Err replay.TooLarge) = tt
replay_kind differs (Err replay.NoMemory) = tt

-- what holds at the record's end of a replay holds at that of the run
pub at_end_of : (P : Type 0) (differs : Bool) (replayed : Result (Unit {0}) ReplayFault) → OnOk replayed P → OnOk (run_result differs replayed) P
at_end_of P differs (Ok done) there = there
at_end_of P differs (Err fault) there = tt
