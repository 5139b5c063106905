-- Two configurations that answer the same events, one beside the other.
use Rattle.std.specs.Prelude.{◌≡◌, ◌⊎◌, ◌++◌, ℕ, Option, List, [], ◌∷◌}
use Rattle.hx_core.specs.Steps.{answer_of, EventAsksFor, refusal_of, world_after}
use Rattle.hx_core.specs.World.{World}
use Rattle.hx_core.specs.declared.fault.StepFault.{StepFault}
use Rattle.hx_outside.specs.Makers.{ExpressionText}
use Rattle.hx_record.specs.declared.Event.{Event}
use Rattle.hx_replay.specs.Behavior.{Behavior, answers_to, state_after}
use Rattle.hx_replay.specs.Program.{Program, initial_world}
use Rattle.hx_diff.specs.AnswerParts.{answer_parts}
use Rattle.hx_diff.specs.Report.{ReportParts, empty_report, ending_of, report_after, told_of}
use Rattle.hx_diff.specs.declared.command.Task.{Task}

-- what is to be told, and the old configuration and the new one, as they were loaded
pub record Programs : Type 0 where
  pub task : Task
  pub old_program : Program
  pub new_program : Program

-- what is known between two events: the worlds of both, and the report so far
pub record Comparison : Type 0 where
  pub old_world : World
  pub new_world : World
  pub report : ReportParts

-- before the first event
abbrev pub initial_comparison : Programs → Comparison
initial_comparison programs = record {
  old_world = initial_world programs.old_program;
  new_world = initial_world programs.new_program;
  report = empty_report programs.task;
}

-- Why an event may not stand where it stands. Both worlds have the same connections, so that one of
-- them decides it.
abbrev pub refusal_in : Comparison → Event → Option StepFault
refusal_in c event = refusal_of c.old_world event

-- what is written at once of an event, by the answers that both worlds give
abbrev pub difference_of : Comparison → Event → List ℕ
difference_of c event =
    told_of c.report event (answer_parts c.report.task c.old_world event)
    (answer_parts c.report.task c.new_world event)

-- both worlds go on, and the event is counted
abbrev pub comparison_after : Comparison → Event → Comparison
comparison_after c event = record {
  old_world = world_after c.old_world event;
  new_world = world_after c.new_world event;
  report = report_after c.report event (answer_of c.old_world event) (answer_of c.new_world event);
}

-- one of the two reads a key as this expression at an event
abbrev pub ComparisonAsksFor : Comparison → Event → ExpressionText → Type 0
ComparisonAsksFor c event text =
    EventAsksFor c.old_world event text ⊎ EventAsksFor c.new_world event text

-- what both do beside one another
abbrev pub comparison_behavior : Behavior Comparison
comparison_behavior = record {
  refusal = refusal_in;
  answer = difference_of;
  after = comparison_after;
  ending = λ c. ending_of c.report;
}

-- what is written of a record with these events: what is written at once of each, and then what is
-- written at the end
abbrev pub comparison_text : Comparison → List Event → List ℕ
comparison_text c events =
    answers_to comparison_behavior c events
    ++ ending_of (state_after comparison_behavior c events).report

-- two worlds answer each of these events alike
abbrev pub AreAnsweredAlike : (old new : World) → List Event → Type 0
AreAnsweredAlike old new [] = Unit {0}
AreAnsweredAlike old new (event ∷ events) =
    (answer_of old event ≡ answer_of new event)
    × AreAnsweredAlike (world_after old event) (world_after new event) events
