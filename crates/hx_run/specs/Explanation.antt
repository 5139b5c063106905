-- What a person reads on standard error of a run that ended: how it ended, and the texts of
-- statuses, which are a table of the program.
use Rattle.std.specs.Prelude.{ℕ, ◌==◌, List, Option, None, Some, codes, map, if◌then◌else◌}
use Rattle.std.specs.Option.{option_map_or}
use Rattle.hx_program.specs.Tables.{status_text}
use Rattle.hx_replay.specs.Explanation.{ToldTexts}
use Rattle.hx_replay.specs.Explanation as replay
use Rattle.hx_replay.specs.declared.ending.Ending.{Ending}
use Rattle.hx_replay.specs.declared.ending.Ending.TheVariants as ending
use Rattle.hx_run.specs.Run.{command_of}
use Rattle.hx_run.specs.RunFault.{fault_status}
use Rattle.hx_run.specs.declared.explain.TheConstants.{STATUS_TEXTS, UNKNOWN_STATUS}
use Rattle.hx_run.specs.declared.run_fault.RunFault.{RunFault}
use Rattle.hx_run.specs.declared.run_fault.RunFault.TheVariants.{ConfigRefused, RecordRefused, Files, TooLarge}

-- the name of the configuration that a command line gives
abbrev pub given_name : List (List ℕ) → List ℕ
given_name words =
    option_map_or (λ command. command.name) (command_of words) (codes "the configuration")

-- what is told of a fault: a refusal, a file or a regular expression; of any other its status
abbrev pub fault_ending : RunFault → Ending
fault_ending (ConfigRefused line code) = ending.ConfigRefused line code
fault_ending (RecordRefused offset code) = ending.RecordRefused offset code
fault_ending Files = ending.UnreadFile
fault_ending TooLarge = ending.TooLarge
fault_ending _ = ending.Other

-- what is told of a run with this status and this fault; where the status isn't the fault's, the
-- line that tells it couldn't be written
abbrev pub ending_of : ℕ → Option RunFault → Ending
ending_of status None = ending.Other
ending_of status (Some fault) =
    if status == fault_status fault then fault_ending fault else ending.Other

-- what is said of a status
abbrev pub text_of_status : ℕ → List ℕ
text_of_status status =
    status_text UNKNOWN_STATUS.now (map (λ row. (row.0, row.1.now)) STATUS_TEXTS) status

-- what is said of a run with this status and this fault
abbrev pub explanation : ℕ → Option RunFault → ToldTexts → List ℕ
explanation status fault told =
    replay.explanation (codes "hxeval") (ending_of status fault) (text_of_status status) told
