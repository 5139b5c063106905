-- What a person reads on standard error of a run of hxtrace that ended: the texts of statuses,
-- which are a table of the program. How it ended is told as of a run of hxeval.
use Rattle.std.specs.Prelude.{ℕ, List, Option, codes, map}
use Rattle.std.specs.Option.{option_map_or}
use Rattle.hx_program.specs.Tables.{status_text}
use Rattle.hx_replay.specs.Explanation.{ToldTexts}
use Rattle.hx_replay.specs.Explanation as replay
use Rattle.hx_run.specs.Explanation.{ending_of}
use Rattle.hx_run.specs.declared.run_fault.RunFault.{RunFault}
use Rattle.hx_trace_run.specs.Words.{command_of, names_of}
use Rattle.hx_trace_run.specs.declared.explain.TheConstants.{STATUS_TEXTS, UNKNOWN_STATUS}

-- the name of the configuration that a command line gives
abbrev pub given_name : List (List ℕ) → List ℕ
given_name words =
    option_map_or (λ command. command.name) (command_of words)
    (option_map_or (λ names. names.0) (names_of words) (codes "the configuration"))

-- what is said of a status
abbrev pub text_of_status : ℕ → List ℕ
text_of_status status =
    status_text UNKNOWN_STATUS.now (map (λ row. (row.0, row.1.now)) STATUS_TEXTS) status

-- what is said of a run with this status and this fault
abbrev pub explanation : ℕ → Option RunFault → ToldTexts → List ℕ
explanation status fault told =
    replay.explanation (codes "hxtrace") (ending_of status fault) (text_of_status status) told
