-- Views of the code of a run: its faults, and what it wrote up to one.
use Rattle.std.specs.Prelude.{◌≡◌, ℕ, List, [], ◌∷◌, Contains, Option, None, Some, Result, Ok, Err, ⊤, ◌⊎◌}
use Rattle.std.specs.Io.KnownBytes.{Appends}
use Rattle.hx_outside.specs.Prefixes.{AppendsPrefix}
use Rattle.hx_outside.specs.declared.FileFault.{FileFault}
use Rattle.hx_outside.specs.declared.FileFault.TheVariants as file
use Rattle.hx_outside.specs.declared.SinkFault.{SinkFault}
use Rattle.hx_outside.specs.declared.SinkFault.TheVariants as sink
use Rattle.hx_load.specs.declared.LoadFault.{LoadFault}
use Rattle.hx_load.specs.declared.LoadFault.TheVariants as load
use Rattle.hx_replay.specs.Gathering.{WritesOutcome}
use Rattle.hx_replay.specs.Outcome.{Outcome}
use Rattle.hx_replay.specs.declared.replay_fault.ReplayFault.{ReplayFault}
use Rattle.hx_replay.specs.declared.replay_fault.ReplayFault.TheVariants as replay
use Rattle.hx_run.specs.Outcome.{End, Completed, last_line}
use Rattle.hx_run.specs.Outcome as ends
use Rattle.hx_run.specs.Run.{Setting, HasOutcome}
use Rattle.hx_run.specs.declared.run_fault.RunFault.{RunFault}
use Rattle.hx_run.specs.declared.run_fault.RunFault.TheVariants.{ConfigRefused, RecordRefused, Files, Source, Sink, TooLarge, NoMemory}

abbrev pub fault_of_file : FileFault → RunFault
fault_of_file file.Failed = Files
fault_of_file file.NoMemory = NoMemory

abbrev pub load_fault : LoadFault → RunFault
load_fault (load.Refused line code) = ConfigRefused line code
load_fault load.Failed = Files
load_fault load.TooLarge = TooLarge
load_fault load.NoMemory = NoMemory

abbrev pub sink_fault : SinkFault → RunFault
sink_fault sink.Failed = Sink
sink_fault sink.NoMemory = NoMemory

abbrev pub replay_fault : ReplayFault → RunFault
replay_fault (replay.RecordRefused offset code) = RecordRefused offset code
replay_fault replay.Source = Source
replay_fault replay.Sink = Sink
replay_fault replay.TooLarge = TooLarge
replay_fault replay.NoMemory = NoMemory

-- what a run comes to whose replay comes to this
abbrev pub run_result : Result (Unit {0}) ReplayFault → Result (Unit {0}) RunFault
run_result (Ok done) = Ok done
run_result (Err fault) = Err (replay_fault fault)

-- the status with which a run ends that has this fault
abbrev pub fault_status : RunFault → ℕ
fault_status (ConfigRefused line code) = 3
fault_status (RecordRefused offset code) = 4
fault_status Files = 5
fault_status Source = 5
fault_status Sink = 6
fault_status TooLarge = 8
fault_status NoMemory = 7

-- the end that a fault shows: a refusal, or none that the configuration and the record decide
abbrev pub fault_end : RunFault → Option End
fault_end (ConfigRefused line code) = Some (ends.ConfigRefused line code)
fault_end (RecordRefused offset code) = Some (ends.RecordRefused offset code)
fault_end _ = None

abbrev pub result_end : Result (Unit {0}) RunFault → Option End
result_end (Ok _) = Some Completed
result_end (Err fault) = fault_end fault

-- a replay has this fault: the configuration is loaded before it
abbrev pub IsReplayFault : RunFault → Type 0
IsReplayFault (ConfigRefused line code) = ⊥
IsReplayFault Files = ⊥
IsReplayFault _ = ⊤

-- a run up to the line that is written of its fault
abbrev pub Attempted : Setting → (old new : Option (List ℕ)) → Result (Unit {0}) RunFault → Type 0
Attempted s old new result = WritesOutcome (HasOutcome s) old new [] (result_end result)

-- the end of a run: the line that tells the fault was written, and the status is the fault's, or
-- the sink failed or memory ran out before
abbrev pub Finishes : RunFault → (old new : Option (List ℕ)) → ℕ → Type 0
Finishes fault old new status =
    ((status ≡ fault_status fault) × Appends old new (last_line (fault_end fault)))
    ⊎ (Contains (6 ∷ 7 ∷ []) status × AppendsPrefix old new (last_line (fault_end fault)))

-- a run under this setting has an outcome that ends so
pub record HasEnd (s : Setting) (end : End) : Type 0 where
  pub outcome : Outcome End
  pub of_setting : HasOutcome s outcome
  pub is : outcome.end ≡ Some end

-- the same of a refusal; of any other fault nothing is said
abbrev pub EndsAs : Setting → Option End → Type 0
EndsAs s None = ⊤
EndsAs s (Some end) = HasEnd s end
