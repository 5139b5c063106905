-- What the words of hxtrace ask for.
use Rattle.std.specs.Prelude.{◌≡◌, ℕ, List, [], ◌∷◌, codes, Option, None, Some, option_map, if◌then◌else◌}
use Rattle.std.specs.Str.{bytes_eq}
use Rattle.std.specs.declared.alloc.Global.{Global}
use Rattle.std.specs.declared.vec.Vec.{Vec}
use Rattle.hx_base.specs.Pairs.{NamedBytes}
use Rattle.hx_program.specs.Machine.{texts_of}
use Rattle.hx_run.specs.Run.{setting, Asked, Setting}
use Rattle.hx_run.specs.declared.command.Detail.TheVariants.{Reasons}
use Rattle.hx_run.specs.declared.command.Task.TheVariants.{Replay}
use Rattle.hx_trace_run.specs.Checking.{check_setting, CheckSetting}

-- the command of the words `trace CONFIG`: a record is answered, and why is told of each request
abbrev pub command_of : List (List ℕ) → Option Asked
command_of (word ∷ name ∷ []) =
    if bytes_eq word (codes "trace") then Some (record { task = Replay Reasons; name = name })
    else None
command_of _ = None

-- the words `check CONFIG TRACE`: the names of the configuration and of the trace
abbrev pub names_of : List (List ℕ) → Option (List ℕ × List ℕ)
names_of (word ∷ config ∷ trace ∷ []) =
    if bytes_eq word (codes "check") then Some (config, trace) else None
names_of _ = None

-- the words are neither
abbrev pub AreNoCommand : List (List ℕ) → Type 0
AreNoCommand texts = (command_of texts ≡ None) × (names_of texts ≡ None)

-- what a run with these words is given; none where they are not `trace CONFIG`
abbrev pub setting_of : List (Vec ℕ Global) → List (Vec ℕ Global × Vec ℕ Global)
    → Option NamedBytes → Option (List ℕ) → Option Setting
setting_of words env held left =
    option_map (λ command. setting env held command left) (command_of (texts_of words))

-- what a check with these words is given; none where they are not `check CONFIG TRACE`
abbrev pub check_setting_of : List (Vec ℕ Global) → List (Vec ℕ Global × Vec ℕ Global)
    → Option NamedBytes → Option (List ℕ) → Option CheckSetting
check_setting_of words env held left =
    option_map (λ names. check_setting env held names.0 names.1 left) (names_of (texts_of words))
