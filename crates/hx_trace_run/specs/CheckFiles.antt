-- The files that a check reads, in their order: those of the configuration, and then the trace.
use Rattle.std.specs.Prelude.{◌≡◌, ◌≢◌, ◌⊎◌, ◌++◌, ℕ, List, [], ◌∷◌, Option}
use Rattle.hx_replay.specs.ConfigFiles.{ReadsPart, ReadsWhole}
use Rattle.hx_run.specs.Run.{config_of}
use Rattle.hx_trace_run.specs.Checking.{CheckSetting, trace_setting}

-- all files of a configuration that is accepted, and then the trace
pub record ReadsTrace (s : CheckSetting) (names : List (List ℕ)) : Type 0 where
  pub config_names : List (List ℕ)
  pub names_are : names ≡ config_names ++ s.trace_name ∷ []
  pub whole : ReadsWhole (config_of (trace_setting s)) config_names

-- The files that were read, in their order, where a check ends with this status, and `last` is the
-- name of the last one that couldn't be read. At statuses 0, 4 and 9 the trace is the last of them,
-- and at 3 it isn't read.
abbrev pub ReadsCheckFiles : CheckSetting → (last : Option (List ℕ)) → (status : ℕ)
    → List (List ℕ) → Type 0
ReadsCheckFiles s last status names =
    ReadsPart (config_of (trace_setting s)) last status names
    ⊎ ((status ≢ 3) × ReadsTrace s names)
