-- What a side answers to an event, and what is shown of it.
use Rattle.std.specs.Prelude.{ℕ, List}
use Rattle.hx_core.specs.Steps.{answer_of}
use Rattle.hx_core.specs.Telling.{told_answer}
use Rattle.hx_core.specs.World.{World}
use Rattle.hx_record.specs.declared.Event.{Event}
use Rattle.hx_trace.specs.Why.{explained}
use Rattle.hx_diff.specs.declared.command.Task.{Task}
use Rattle.hx_diff.specs.declared.command.Task.TheVariants.{Lines, Reasons, Counts}

-- an answer, which is compared with that of the other side, and the lines that are shown of it
-- where the two differ
pub record AnswerParts : Type 0 where
  pub answer : List ℕ
  pub shown : List ℕ

-- the lines that are shown of an answer: itself, and where reasons are asked for, after the lines
-- of a request the one that tells why it has its verdict
abbrev pub shown_answer : Task → World → Event → List ℕ
shown_answer Lines world event = answer_of world event
shown_answer Reasons world event = told_answer explained world event
shown_answer Counts world event = answer_of world event

-- what the world of a side answers to an event
abbrev pub answer_parts : Task → World → Event → AnswerParts
answer_parts task world event =
    record { answer = answer_of world event; shown = shown_answer task world event }
