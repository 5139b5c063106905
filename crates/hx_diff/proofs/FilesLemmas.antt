-- Lemmas on the files that a run reads.
use Rattle.std.proofs.Common.{◌≡◌, ◌≢◌, ℕ, List, Option, Result, Ok, Err, IfErr, Bool, inl, inr, arith, refl}
use Rattle.hx_load.specs.declared.LoadFault.{LoadFault}
use Rattle.hx_load.specs.declared.LoadFault.TheVariants as load
use Rattle.hx_outside.specs.Log.{FileLog, HoldsSince}
use Rattle.hx_refs.specs.References.{RefsState}
use Rattle.hx_rules.specs.Programs.{Rules}
use Rattle.hx_replay.proofs.ConfigFileLemmas.{EndsWith, config_at_end, files_loaded, files_unloaded, joined, part_at_end}
use Rattle.hx_replay.specs.ConfigFiles.{ReadsConfigFiles, ReadsPart, ReadsToLoad, ReadsWhole, load_status}
use Rattle.hx_diff.specs.Run.{Setting, new_of, old_of}
use Rattle.hx_diff.specs.RunFault.{Finishes, IsReplayFault, fault_status, load_fault, result_status}
use Rattle.hx_replay.proofs.LogLemmas.{since_map}
use Rattle.hx_diff.specs.RunFiles.{ReadsFiles}
use Rattle.hx_diff.specs.declared.run_fault.RunFault.{RunFault}
use Rattle.hx_diff.specs.declared.run_fault.RunFault.TheVariants as run
use Rattle.hx_diff.specs.declared.run_fault.Side.{Side}
use Rattle.hx_diff.proofs.StatusLemmas.{completed_small}

-- ---- both configurations

status_of_load : (side : Side) (fault : LoadFault) → load_status fault ≡ fault_status (load_fault side fault)
status_of_load side (load.Refused line code) = refl
status_of_load side load.Failed = refl
status_of_load side load.TooLarge = refl
status_of_load side load.NoMemory = refl

-- the old one isn't loaded
pub files_of_old : (s : Setting) (side : Side) (fault : LoadFault) (last : Option (List ℕ)) (old new : Option FileLog)
    → HoldsSince old new (ReadsToLoad (old_of s) last (Err fault)) → HoldsSince old new (ReadsFiles s last (fault_status (load_fault side fault)))
files_of_old s side fault last old new since =
    since_map old new (ReadsPart (old_of s) last (load_status fault)) (ReadsFiles s last (fault_status (load_fault side fault))) since
    (λ names part. inl (rw (status_of_load side fault) at part))

-- the new one isn't loaded
pub files_of_new : (s : Setting) (side : Side) (fault : LoadFault) (last : Option (List ℕ)) (old new : Option FileLog)
    → HoldsSince old new (ReadsToLoad (new_of s) last (Err fault))
    → HoldsSince old new (ReadsConfigFiles (new_of s) last (fault_status (load_fault side fault)))
files_of_new s side fault last old new since =
    files_unloaded (new_of s) fault last (fault_status (load_fault side fault)) old new (status_of_load side fault) since

-- a replay refuses no configuration
no_refusal : (r : Result Bool RunFault) → IfErr r IsReplayFault → result_status r ≢ 3
no_refusal (Ok differs) kind = λ is. omega (arith, is, completed_small differs)
no_refusal (Err (run.ConfigRefused side line code)) kind = absurd kind
no_refusal (Err (run.RecordRefused offset code)) kind = λ is. absurd (omega (arith, is))
no_refusal (Err run.Files) kind = absurd kind
no_refusal (Err run.Source) kind = λ is. absurd (omega (arith, is))
no_refusal (Err run.Sink) kind = λ is. absurd (omega (arith, is))
no_refusal (Err run.TooLarge) kind = λ is. absurd (omega (arith, is))
no_refusal (Err run.NoMemory) kind = λ is. absurd (omega (arith, is))

-- the new one is loaded, and the record replayed
pub files_of_replay : (s : Setting) (loaded : Rules × RefsState) (r : Result Bool RunFault) (last : Option (List ℕ)) (old new : Option FileLog)
    → IfErr r IsReplayFault → HoldsSince old new (ReadsToLoad (new_of s) last (Ok loaded))
    → HoldsSince old new (ReadsConfigFiles (new_of s) last (result_status r))
files_of_replay s loaded r last old new kind since =
    files_loaded (new_of s) loaded last last (result_status r) old new (no_refusal r kind) since

-- the old one is loaded, and then the new one is read
pub files_of_both : (s : Setting) (loaded : Rules × RefsState) (r : Result Bool RunFault) (first_last last : Option (List ℕ)) (old now new : Option FileLog)
    → HoldsSince old now (ReadsToLoad (old_of s) first_last (Ok loaded)) → HoldsSince now new (ReadsConfigFiles (new_of s) last (result_status r))
    → HoldsSince old new (ReadsFiles s last (result_status r))
files_of_both s loaded r first_last last old now new first second =
    joined old now new (ReadsWhole (old_of s)) (ReadsConfigFiles (new_of s) last (result_status r)) (ReadsFiles s last (result_status r))
    (λ old_names new_names whole others. inr (record {
      old_names = old_names;
      new_names = new_names;
      names_are = refl;
      old = whole;
      new = others;
    })) first second

-- ---- the end of a run

ends_with_fault : (fault : RunFault) (old new : Option (List ℕ)) (status : ℕ) → Finishes fault old new status → EndsWith (fault_status fault) status
ends_with_fault fault old new status (inl (same, line)) = inl same
ends_with_fault fault old new status (inr (late, part)) = inr late

finished_reads : (s : Setting) (last : Option (List ℕ)) (status final : ℕ) → EndsWith status final
    → (names : List (List ℕ)) → ReadsFiles s last status names → ReadsFiles s last final names
finished_reads s last status final ends names (inl part) = inl (part_at_end (old_of s) last status final ends names part)
finished_reads s last status final ends names (inr both) = inr (record {
  old_names = both.old_names;
  new_names = both.new_names;
  names_are = both.names_are;
  old = both.old;
  new = config_at_end (new_of s) last status final ends both.new_names both.new;
})

pub finished_files : (s : Setting) (last : Option (List ℕ)) (fault : RunFault) (old new : Option (List ℕ)) (status : ℕ) (log log' : Option FileLog)
    → Finishes fault old new status → HoldsSince log log' (ReadsFiles s last (fault_status fault)) → HoldsSince log log' (ReadsFiles s last status)
finished_files s last fault old new status log log' f since =
    since_map log log' (ReadsFiles s last (fault_status fault)) (ReadsFiles s last status) since
    (finished_reads s last (fault_status fault) status (ends_with_fault fault old new status f))
