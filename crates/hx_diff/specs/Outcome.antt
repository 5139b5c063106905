-- What a run writes, and how it ends.
use Rattle.std.specs.Prelude.{ℕ, Bool, true, false, List, [], ◌++◌, codes, Option, None, Some}
use Rattle.std.specs.Fmt.{decimal}
use Rattle.hx_replay.specs.Outcome.{Outcome, RecordEnd, RefusedAt, ReplayEnd}
use Rattle.hx_replay.specs.Records.{record_line}
use Rattle.hx_diff.specs.Comparison.{Comparison}
use Rattle.hx_diff.specs.Tally.{some_differ}
use Rattle.hx_diff.specs.declared.run_fault.Side.{Side}
use Rattle.hx_diff.specs.declared.run_fault.Side.TheVariants.{Old, New}

-- How a run ends, as its configurations and its record decide it.
pub data End : Type 0 where
  Completed : (differs : Bool) → End
  ConfigRefused : (side : Side) → (line code : ℕ) → End
  RecordRefused : (offset code : ℕ) → End

-- the end of a run whose replay ends so
abbrev pub run_end : ReplayEnd Comparison → End
run_end (RecordEnd last) = Completed (some_differ last.report.tally)
run_end (RefusedAt offset code) = RecordRefused offset code

-- the exit status of a run that ends so, where that is decided
abbrev pub status_of : Option End → Option ℕ
status_of (Some (Completed false)) = Some 0
status_of (Some (Completed true)) = Some 1
status_of (Some (ConfigRefused side line code)) = Some 3
status_of (Some (RecordRefused offset code)) = Some 4
status_of None = None

-- the word for a configuration
abbrev pub side_name : Side → List ℕ
side_name Old = codes "old"
side_name New = codes "new"

abbrev pub config_line : Side → (line code : ℕ) → List ℕ
config_line side line code =
    side_name side ++ (codes " " ++ (decimal line ++ (codes " " ++ (decimal code ++ codes "\n"))))

-- the line that is written of a refusal
abbrev pub last_line : Option End → List ℕ
last_line (Some (Completed differs)) = []
last_line (Some (ConfigRefused side line code)) = config_line side line code
last_line (Some (RecordRefused offset code)) = record_line offset code
last_line None = []

-- all that is written
abbrev pub text_of : Outcome End → List ℕ
text_of outcome = outcome.answers ++ last_line outcome.end
