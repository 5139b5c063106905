-- What is written of the events that don't work on one version alone (HAProxy management guide 2.4,
-- section 9.3, `prepare map`, `commit map`).
use Rattle.std.specs.Prelude.{◌≡◌, ◌≢◌, ℕ, Bool, List, [], ◌∷◌, Option, if◌then◌else◌, flat_map}
use Rattle.std.specs.Io.KnownBytes.{Appends}
use Rattle.hx_core.specs.Steps.{answer_of, world_after}
use Rattle.hx_core.specs.Unseen.{answer_without_count, events_without, is_any_event, is_kept, IsNeverCommitted}
use Rattle.hx_core.specs.World.{World}
use Rattle.hx_record.specs.declared.Event.{Event}
use Rattle.hx_replay.specs.Behavior.{AreAllowed}
use Rattle.hx_replay.specs.Program.{engine_behavior, initial_world}
use Rattle.hx_run.specs.Run.{Headline, Setting}

-- what a function makes of those of the events that a test chooses, each in the world to which all
-- before it lead
abbrev pub chosen_answers : (World → Event → List ℕ) → (World → Event → Bool) → World
    → List Event → List (List ℕ)
chosen_answers answer chosen world [] = []
chosen_answers answer chosen world (event ∷ events) =
    let rest = chosen_answers answer chosen (world_after world event) events in
    if chosen world event then answer world event ∷ rest else rest

-- The version of the reference shows in no answer. What was written is the answers to the events,
-- one after another. Without the events that work on the version alone, each of the others may
-- stand where it then stands, and is answered as it is among them, but for the count of the
-- reference's entries.
pub record ShowsInNoAnswer (r v : ℕ) (world : World) (events : List Event)
    (old new : Option (List ℕ)) : Type 0 where
  pub written : Appends old new
      (flat_map (λ (answer : List ℕ). answer) (chosen_answers answer_of is_any_event world events))
  pub allowed : AreAllowed engine_behavior world (events_without r v world events)
  pub same : chosen_answers (answer_without_count r) is_any_event world
      (events_without r v world events)
      ≡ chosen_answers (answer_without_count r) (is_kept r v) world events

-- The headline, and that no version of a reference shows in any answer that no event of the record
-- commits. Version 0 is the one that is searched at first.
pub record ShowsNoUncommittedVersion (s : Setting) (old new : Option (List ℕ)) : Type 0 where
  pub done : Headline s old new
  pub unseen : (r v : ℕ) → v ≢ 0 → IsNeverCommitted r v (initial_world done.program) done.events
      → ShowsInNoAnswer r v (initial_world done.program) done.events old new
