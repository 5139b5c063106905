-- The files that a run reads, in their order: the configuration, and then those that it names.
use Rattle.std.specs.Prelude.{ℕ, List, Option, Result, Ok, Err}
use Rattle.hx_replay.specs.ConfigFiles.{ReadsConfigFiles}
use Rattle.hx_run.specs.Run.{Setting, config_of}
use Rattle.hx_run.specs.RunFault.{fault_status}
use Rattle.hx_run.specs.declared.run_fault.RunFault.{RunFault}

-- The files that were read, in their order, where a run ends with this status, and `last` is the
-- name of the last one that couldn't be read. At statuses 0 and 4 those are all files.
abbrev pub ReadsFiles : Setting → (last : Option (List ℕ)) → (status : ℕ) → List (List ℕ) → Type 0
ReadsFiles s last status names = ReadsConfigFiles (config_of s) last status names

-- the status with which a run ends that comes to this, where its last line is written
abbrev pub result_status : Result (Unit {0}) RunFault → ℕ
result_status (Ok _) = 0
result_status (Err fault) = fault_status fault
