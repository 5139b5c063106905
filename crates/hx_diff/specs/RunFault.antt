-- Views of the code of a run: its faults, and what it wrote up to one.
use Rattle.std.specs.Prelude.{◌≡◌, ℕ, Bool, true, false, List, [], ◌∷◌, Contains, Option, None, Some, Result, Ok, Err, ⊤, ◌⊎◌}
use Rattle.std.specs.Io.KnownBytes.{Appends}
use Rattle.hx_outside.specs.Prefixes.{AppendsPrefix}
use Rattle.hx_load.specs.declared.LoadFault.{LoadFault}
use Rattle.hx_load.specs.declared.LoadFault.TheVariants as load
use Rattle.hx_refs.specs.References.{RefsState}
use Rattle.hx_rules.specs.Programs.{Rules}
use Rattle.hx_replay.specs.Configs.{program_of}
use Rattle.hx_replay.specs.Gathering.{WritesOutcome}
use Rattle.hx_replay.specs.Outcome.{Outcome}
use Rattle.hx_replay.specs.declared.replay_fault.ReplayFault.{ReplayFault}
use Rattle.hx_replay.specs.declared.replay_fault.ReplayFault.TheVariants as replay
use Rattle.hx_diff.specs.Comparison.{Programs}
use Rattle.hx_diff.specs.Outcome.{End, Completed, last_line}
use Rattle.hx_diff.specs.Outcome as ends
use Rattle.hx_diff.specs.Run.{Setting, HasOutcome}
use Rattle.hx_diff.specs.declared.command.Task.{Task}
use Rattle.hx_diff.specs.declared.run_fault.RunFault.{RunFault}
use Rattle.hx_diff.specs.declared.run_fault.RunFault.TheVariants.{ConfigRefused, RecordRefused, Files, Source, Sink, TooLarge, NoMemory}
use Rattle.hx_diff.specs.declared.run_fault.Side.{Side}

-- the fault of a run whose configuration on this side isn't loaded
abbrev pub load_fault : Side → LoadFault → RunFault
load_fault side (load.Refused line code) = ConfigRefused side line code
load_fault side load.Failed = Files
load_fault side load.TooLarge = TooLarge
load_fault side load.NoMemory = NoMemory

abbrev pub replay_fault : ReplayFault → RunFault
replay_fault (replay.RecordRefused offset code) = RecordRefused offset code
replay_fault replay.Source = Source
replay_fault replay.Sink = Sink
replay_fault replay.TooLarge = TooLarge
replay_fault replay.NoMemory = NoMemory

-- what a run comes to whose replay comes to this, with answers that differ or none
abbrev pub run_result : (differs : Bool) → Result (Unit {0}) ReplayFault → Result Bool RunFault
run_result differs (Ok _) = Ok differs
run_result differs (Err fault) = Err (replay_fault fault)

-- the status with which a run ends that came to the record's end
abbrev pub completed_status : Bool → ℕ
completed_status false = 0
completed_status true = 1

-- the status with which a run ends that has this fault
abbrev pub fault_status : RunFault → ℕ
fault_status (ConfigRefused side line code) = 3
fault_status (RecordRefused offset code) = 4
fault_status Files = 5
fault_status Source = 5
fault_status Sink = 6
fault_status TooLarge = 8
fault_status NoMemory = 7

-- the end that a fault shows: a refusal, or none that the configurations and the record decide
abbrev pub fault_end : RunFault → Option End
fault_end (ConfigRefused side line code) = Some (ends.ConfigRefused side line code)
fault_end (RecordRefused offset code) = Some (ends.RecordRefused offset code)
fault_end _ = None

abbrev pub result_end : Result Bool RunFault → Option End
result_end (Ok differs) = Some (Completed differs)
result_end (Err fault) = fault_end fault

-- a replay has this fault: the configurations are loaded before it
abbrev pub IsReplayFault : RunFault → Type 0
IsReplayFault (ConfigRefused side line code) = ⊥
IsReplayFault Files = ⊥
IsReplayFault _ = ⊤

-- a run up to the line that is written of its fault
abbrev pub Attempted : Setting → (old new : Option (List ℕ)) → Result Bool RunFault → Type 0
Attempted s old new result = WritesOutcome (HasOutcome s) old new [] (result_end result)

-- the end of a run: the line that tells the fault was written, and the status is the fault's, or
-- the sink failed or memory ran out before
abbrev pub Finishes : RunFault → (old new : Option (List ℕ)) → ℕ → Type 0
Finishes fault old new status =
    ((status ≡ fault_status fault) × Appends old new (last_line (fault_end fault)))
    ⊎ (Contains (6 ∷ 7 ∷ []) status × AppendsPrefix old new (last_line (fault_end fault)))

-- the status of a run that ends so, where the line that tells it is written
abbrev pub result_status : Result Bool RunFault → ℕ
result_status (Ok differs) = completed_status differs
result_status (Err fault) = fault_status fault

-- a run under this setting has an outcome that ends so
pub record HasEnd (s : Setting) (end : End) : Type 0 where
  pub outcome : Outcome End
  pub of_setting : HasOutcome s outcome
  pub is : outcome.end ≡ Some end

-- the same of a refusal; of any other fault nothing is said
abbrev pub EndsAs : Setting → Option End → Type 0
EndsAs s None = ⊤
EndsAs s (Some end) = HasEnd s end

-- ---- loading

abbrev pub programs_of : Task → (old new : Rules × RefsState) → Programs
programs_of task old new =
    record { task = task; old_program = program_of old; new_program = program_of new }
