-- Lemmas on the fault that is told of a run.
use Rattle.std.proofs.Common.{◌≡◌, ℕ, [], ◌∷◌, ◌⊎◌, List, Option, Contains, Err, inl, inr}
use Rattle.hx_run.specs.Run.{Setting}
use Rattle.hx_run.specs.RunFault.{Attempted, EndsAs, Finishes, fault_end, fault_status}
use Rattle.hx_run.specs.declared.run_fault.RunFault.{RunFault}
use Rattle.hx_run.specs.declared.run_fault.RunFault.TheVariants as run

-- a refusal that ended a run is that of its outcome
pub ends_as : (s : Setting) (old new : Option (List ℕ)) (fault : RunFault) → Attempted s old new (Err fault) → EndsAs s (fault_end fault)
ends_as s old new (run.ConfigRefused line code) a = record { outcome = a.outcome; of_setting = a.is_such; is = a.answers.0 }
ends_as s old new (run.RecordRefused offset code) a = record { outcome = a.outcome; of_setting = a.is_such; is = a.answers.0 }
ends_as s old new run.Files a = tt
ends_as s old new run.Source a = tt
ends_as s old new run.Sink a = tt
ends_as s old new run.TooLarge a = tt
ends_as s old new run.NoMemory a = tt

-- the status is the fault's, or its line couldn't be written
pub of_fault : (fault : RunFault) (old new : Option (List ℕ)) (status : ℕ) → Finishes fault old new status
    → (status ≡ fault_status fault) ⊎ Contains (6 ∷ 7 ∷ []) status
of_fault fault old new status (inl (same, line)) = inl same
of_fault fault old new status (inr (late, part)) = inr late
