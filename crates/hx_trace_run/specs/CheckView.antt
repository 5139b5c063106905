-- Views of the code of a check: what it finds, and what it comes to.
use Rattle.std.specs.Prelude.{◌≡◌, ◌⊎◌, ℕ, List, [], ◌∷◌, Contains, IsSomeAnd, Option, Some, Result, Ok, Err, ⊤}
use Rattle.std.specs.Io.KnownBytes.{Appends}
use Rattle.hx_base.specs.Pairs.{NamedBytes}
use Rattle.hx_outside.specs.Prefixes.{AppendsPrefix}
use Rattle.hx_replay.specs.Outcome.{Outcome}
use Rattle.hx_replay.specs.Program.{Program}
use Rattle.hx_replay.specs.Records.{IsRecord}
use Rattle.hx_run.specs.Outcome.{Completed, End, last_line}
use Rattle.hx_run.specs.Outcome as ends
use Rattle.hx_run.specs.Run.{HasOutcome, accepted_outcome}
use Rattle.hx_replay.specs.declared.replay_fault.ReplayFault.{ReplayFault}
use Rattle.hx_run.specs.RunFault.{fault_end, fault_status, replay_fault}
use Rattle.hx_run.specs.declared.command.Detail.TheVariants.{Reasons}
use Rattle.hx_run.specs.declared.command.Task.TheVariants.{Replay}
use Rattle.hx_run.specs.declared.run_fault.RunFault.{RunFault}
use Rattle.hx_run.specs.declared.run_fault.RunFault.TheVariants.{ConfigRefused, RecordRefused}
use Rattle.hx_trace_run.specs.Checking.{CheckSetting, IsFile, IsTrace, trace_setting}
use Rattle.hx_trace_run.specs.Comparing.{finding_of, finding_status, finding_text}
use Rattle.hx_trace_run.specs.declared.agreement.Finding.{Finding}

-- what comes of a record whose replay comes to this, where this is found at its end
abbrev pub found_result : Finding → Result (Unit {0}) ReplayFault → Result Finding RunFault
found_result finding (Ok _) = Ok finding
found_result finding (Err fault) = Err (replay_fault fault)

-- the line that is written at the end
abbrev pub result_text : Result Finding RunFault → List ℕ
result_text (Ok finding) = finding_text finding
result_text (Err fault) = last_line (fault_end fault)

-- the status of a check that comes to this, where that line is written
abbrev pub result_status : Result Finding RunFault → ℕ
result_status (Ok finding) = finding_status finding
result_status (Err fault) = fault_status fault

-- This is what comes of a trace where `trace` comes to this outcome: it ends with the refusal, or
-- at the record's end, with this finding. Of what failed outside, and of memory, nothing is said.
abbrev pub IsFound : (trace : Option (List ℕ)) → Outcome End → Result Finding RunFault → Type 0
IsFound trace outcome (Ok finding) =
    (outcome.end ≡ Some Completed)
    × IsSomeAnd trace (λ bytes. finding ≡ finding_of bytes outcome.answers)
IsFound trace outcome (Err (ConfigRefused line code)) =
    outcome.end ≡ Some (ends.ConfigRefused line code)
IsFound trace outcome (Err (RecordRefused offset code)) =
    outcome.end ≡ Some (ends.RecordRefused offset code)
IsFound trace outcome (Err _) = ⊤

-- what comes of a trace and the record that a source has left, under a program
pub record FindsBeside (program : Program) (trace : List ℕ) (left : Option (List ℕ))
    (result : Result Finding RunFault) : Type 0 where
  pub bytes : List ℕ
  pub of_source : IsRecord left bytes
  pub found : IsFound (Some trace) (accepted_outcome (Replay Reasons) program bytes) result

-- the same of a trace that files hold under this name, as far as that is known
pub record FindsNamed (program : Program) (held : Option NamedBytes) (name : List ℕ)
    (left : Option (List ℕ)) (result : Result Finding RunFault) : Type 0 where
  pub trace : Option (List ℕ)
  pub of_files : IsFile held name trace
  pub bytes : List ℕ
  pub of_source : IsRecord left bytes
  pub found : IsFound trace (accepted_outcome (Replay Reasons) program bytes) result

-- the same of all that a check is given
pub record FindsCheck (s : CheckSetting) (result : Result Finding RunFault) : Type 0 where
  pub trace : Option (List ℕ)
  pub of_files : IsTrace s trace
  pub traced : Outcome End
  pub of_run : HasOutcome (trace_setting s) traced
  pub found : IsFound trace traced result

-- the end of a check: its line was written, and the status is that of the result, or the sink
-- failed or memory ran out before
abbrev pub FinishesCheck : Result Finding RunFault → (old new : Option (List ℕ)) → ℕ → Type 0
FinishesCheck result old new status =
    ((status ≡ result_status result) × Appends old new (result_text result))
    ⊎ (Contains (6 ∷ 7 ∷ []) status × AppendsPrefix old new (result_text result))
