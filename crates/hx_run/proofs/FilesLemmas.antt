-- Lemmas on the files that a run reads.
use Rattle.std.proofs.Common.{◌≡◌, ◌≢◌, ℕ, List, Option, Result, Ok, Err, IfErr, inl, inr, arith, refl}
use Rattle.hx_load.specs.declared.LoadFault.{LoadFault}
use Rattle.hx_load.specs.declared.LoadFault.TheVariants as load
use Rattle.hx_outside.specs.Log.{FileLog, HoldsSince}
use Rattle.hx_outside.specs.declared.SinkFault.{SinkFault}
use Rattle.hx_outside.specs.declared.SinkFault.TheVariants as sink
use Rattle.hx_replay.specs.ConfigFiles.{ReadsToLoad, load_status}
use Rattle.hx_replay.proofs.ConfigFileLemmas.{EndsWith, config_at_end, files_unloaded}
use Rattle.hx_replay.proofs.LogLemmas.{since_map}
use Rattle.hx_run.specs.Run.{Setting, config_of}
use Rattle.hx_run.specs.RunFault.{Finishes, IsReplayFault, fault_status, load_fault, sink_fault}
use Rattle.hx_run.specs.RunFiles.{ReadsFiles, result_status}
use Rattle.hx_run.specs.declared.run_fault.RunFault.{RunFault}
use Rattle.hx_run.specs.declared.run_fault.RunFault.TheVariants as run

status_of_load : (fault : LoadFault) → load_status fault ≡ fault_status (load_fault fault)
status_of_load (load.Refused line code) = refl
status_of_load load.Failed = refl
status_of_load load.TooLarge = refl
status_of_load load.NoMemory = refl

-- the configuration isn't loaded
pub files_of_unloaded : (s : Setting) (fault : LoadFault) (last : Option (List ℕ)) (old new : Option FileLog)
    → HoldsSince old new (ReadsToLoad (config_of s) last (Err fault)) → HoldsSince old new (ReadsFiles s last (fault_status (load_fault fault)))
files_of_unloaded s fault last old new since =
    files_unloaded (config_of s) fault last (fault_status (load_fault fault)) old new (status_of_load fault) since

-- a replay refuses no configuration
pub no_refusal : (r : Result (Unit {0}) RunFault) → IfErr r IsReplayFault → result_status r ≢ 3
no_refusal (Ok _) kind = λ is. absurd (omega (arith, is))
no_refusal (Err (run.ConfigRefused line code)) kind = absurd kind
no_refusal (Err (run.RecordRefused offset code)) kind = λ is. absurd (omega (arith, is))
no_refusal (Err run.Files) kind = absurd kind
no_refusal (Err run.Source) kind = λ is. absurd (omega (arith, is))
no_refusal (Err run.Sink) kind = λ is. absurd (omega (arith, is))
no_refusal (Err run.TooLarge) kind = λ is. absurd (omega (arith, is))
no_refusal (Err run.NoMemory) kind = λ is. absurd (omega (arith, is))

-- nor does writing that it is accepted
pub no_refusal_at_sink : (fault : SinkFault) → fault_status (sink_fault fault) ≢ 3
no_refusal_at_sink sink.Failed = λ is. absurd (omega (arith, is))
no_refusal_at_sink sink.NoMemory = λ is. absurd (omega (arith, is))

-- ---- the end of a run

pub ends_with_fault : (fault : RunFault) (old new : Option (List ℕ)) (status : ℕ) → Finishes fault old new status → EndsWith (fault_status fault) status
ends_with_fault fault old new status (inl (same, line)) = inl same
ends_with_fault fault old new status (inr (late, part)) = inr late

pub finished_files : (s : Setting) (last : Option (List ℕ)) (fault : RunFault) (old new : Option (List ℕ)) (status : ℕ) (log log' : Option FileLog)
    → Finishes fault old new status → HoldsSince log log' (ReadsFiles s last (fault_status fault))
    → HoldsSince log log' (ReadsFiles s last status)
finished_files s last fault old new status log log' f since =
    since_map log log' (ReadsFiles s last (fault_status fault)) (ReadsFiles s last status) since
    (config_at_end (config_of s) last (fault_status fault) status (ends_with_fault fault old new status f))
