-- What is written of the answers of two configurations: at each event, and at the record's end.
use Rattle.std.specs.Prelude.{ℕ, List, [], ◌++◌, if◌then◌else◌}
use Rattle.std.specs.Str.{bytes_eq}
use Rattle.hx_core.specs.Steps.{next_number}
use Rattle.hx_record.specs.declared.Event.{Event}
use Rattle.hx_record.specs.declared.Event.TheVariants.{Conn, Req, Close, Cli}
use Rattle.hx_diff.specs.AnswerParts.{AnswerParts}
use Rattle.hx_diff.specs.Difference.{event_difference}
use Rattle.hx_diff.specs.Tally.{no_tally, tally_after, totals}
use Rattle.hx_diff.specs.Verdicts.{Row, rows_text, verdict_in, with_request}
use Rattle.hx_diff.specs.declared.command.Task.{Task}
use Rattle.hx_diff.specs.declared.command.Task.TheVariants.{Lines, Reasons, Counts}
use Rattle.hx_diff.specs.declared.tally.Tally.{Tally}

-- what was asked for, how many answers there were and how many differ, and the rows of the verdicts
-- of the requests whose answers differ, where these are asked for
pub record ReportParts : Type 0 where
  pub task : Task
  pub tally : Tally
  pub rows : List Row

-- before the first event
abbrev pub empty_report : Task → ReportParts
empty_report task = record { task = task; tally = no_tally; rows = [] }

-- what is written at once of an event with these two answers, where it is the request with this
-- number or none: its difference, but where counts are asked for
abbrev pub written_at_once : Task → (number : ℕ) → Event → (old new : AnswerParts) → List ℕ
written_at_once Lines number event old new = event_difference number event old new
written_at_once Reasons number event old new = event_difference number event old new
written_at_once Counts number event old new = []

-- the rows after the same: where counts are asked for, a request whose answers differ is counted by
-- their verdicts
abbrev pub rows_after : Task → (number : ℕ) → Event → (old new : List ℕ) → List Row → List Row
rows_after Lines number event old new rows = rows
rows_after Reasons number event old new rows = rows
rows_after Counts number (Conn id src src_port dst dst_port) old new rows = rows
rows_after Counts number (Req id bytes) old new rows =
    if bytes_eq old new then rows
    else with_request number (verdict_in old) (verdict_in new) rows
rows_after Counts number (Close id) old new rows = rows
rows_after Counts number (Cli session text) old new rows = rows

-- what a report writes at once of an event with these two answers
abbrev pub told_of : ReportParts → Event → (old new : AnswerParts) → List ℕ
told_of report event old new =
    written_at_once report.task (next_number report.tally.requests) event old new

-- the report after it
abbrev pub report_after : ReportParts → Event → (old new : List ℕ) → ReportParts
report_after report event old new = record {
  task = report.task;
  tally = tally_after report.tally event old new;
  rows = rows_after report.task (next_number report.tally.requests) event old new report.rows;
}

-- what is written at the record's end: the rows, of which there are none but where counts are asked
-- for, and the totals
abbrev pub ending_of : ReportParts → List ℕ
ending_of report = rows_text report.rows ++ totals report.tally
