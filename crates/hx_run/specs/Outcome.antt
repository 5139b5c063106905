-- What a run writes, and how it ends.
use Rattle.std.specs.Prelude.{ℕ, List, [], ◌++◌, codes, Option, None, Some}
use Rattle.std.specs.Fmt.{decimal}
use Rattle.hx_core.specs.World.{World}
use Rattle.hx_replay.specs.Outcome.{Outcome, RecordEnd, RefusedAt, ReplayEnd}
use Rattle.hx_replay.specs.Records.{record_line}

-- How a run ends, as its configuration and its record decide it.
pub data End : Type 0 where
  Completed : End
  ConfigRefused : (line code : ℕ) → End
  RecordRefused : (offset code : ℕ) → End

-- the end of a run whose replay ends so
abbrev pub run_end : ReplayEnd World → End
run_end (RecordEnd last) = Completed
run_end (RefusedAt offset code) = RecordRefused offset code

-- the exit status of a run that ends so, where that is decided
abbrev pub status_of : Option End → Option ℕ
status_of (Some Completed) = Some 0
status_of (Some (ConfigRefused line code)) = Some 3
status_of (Some (RecordRefused offset code)) = Some 4
status_of None = None

abbrev pub config_line : (line code : ℕ) → List ℕ
config_line line code =
    codes "config " ++ (decimal line ++ (codes " " ++ (decimal code ++ codes "\n")))

-- the line that is written of a refusal
abbrev pub last_line : Option End → List ℕ
last_line (Some Completed) = []
last_line (Some (ConfigRefused line code)) = config_line line code
last_line (Some (RecordRefused offset code)) = record_line offset code
last_line None = []

-- all that is written
abbrev pub text_of : Outcome End → List ℕ
text_of outcome = outcome.answers ++ last_line outcome.end
