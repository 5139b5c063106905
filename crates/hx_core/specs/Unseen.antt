-- A version that is never committed changes no answer: which events of a list work on it alone,
-- what is equal between two worlds of which one had none of them, and what is compared of answers
-- (HAProxy management guide 2.4, section 9.3, `prepare map`, `commit map`).
use Rattle.std.specs.Prelude.{◌≡◌, ⊤, ℕ, Bool, true, false, not, List, [], ◌∷◌, Option, None, Some, if◌then◌else◌}
use Rattle.std.specs.Option.{option_map_or}
use Rattle.hx_cli.specs.Payloads.{line_effect}
use Rattle.hx_cli.specs.Unseen.{is_commit_line, is_line_on_version, line_command, line_reply_without_count, AreAlike}
use Rattle.hx_record.specs.declared.Event.{Event}
use Rattle.hx_record.specs.declared.Event.TheVariants.{Cli}
use Rattle.hx_core.specs.Answers.{reply_text}
use Rattle.hx_core.specs.Steps.{answer_of, refusal_of, world_after}
use Rattle.hx_core.specs.World.{World}
use Rattle.hx_core.specs.declared.fault.StepFault.{StepFault}

-- ---- events

-- the event is a line that works on version v of the reference at a position alone
abbrev pub is_left_out : ℕ → ℕ → World → Event → Bool
is_left_out r v world (Cli session text) =
    is_line_on_version r v session text world.payloads world.refs
is_left_out r v world _ = false

-- the events without those, each judged in the world to which all before it lead
abbrev pub events_without : ℕ → ℕ → World → List Event → List Event
events_without r v world [] = []
events_without r v world (event ∷ events) =
    let rest = events_without r v (world_after world event) events in
    if is_left_out r v world event then rest else event ∷ rest

-- the event is a `commit` of the version, and is done
abbrev pub is_commit : ℕ → ℕ → World → Event → Bool
is_commit r v world (Cli session text) =
    is_commit_line r v session text world.payloads world.refs
is_commit r v world _ = false

-- no event commits the version, up to the first that may not stand where it stands
abbrev pub IsNeverCommitted : ℕ → ℕ → World → List Event → Type 0
IsNeverCommitted r v world [] = ⊤
IsNeverCommitted r v world (event ∷ events) =
    refusal_of world event ≡ None
    → (is_commit r v world event ≡ false) × IsNeverCommitted r v (world_after world event) events

-- ---- worlds

-- two worlds are equal but for what was added to the version, which isn't searched, and for the
-- payloads that were begun for it, of which the second has none
pub record AreAlikeWorlds (r v : ℕ) (first second : World) : Type 0 where
  pub rules : second.rules ≡ first.rules
  pub connections : second.connections ≡ first.connections
  pub requests : second.requests ≡ first.requests
  pub vars : second.vars ≡ first.vars
  pub management : AreAlike r v first.refs second.refs first.payloads second.payloads

-- ---- answers

-- the answer to an event, without the count of the entries of the reference at a position, which
-- `show acl` and `show map` without a reference tell
abbrev pub answer_without_count : ℕ → World → Event → List ℕ
answer_without_count r world (Cli session text) =
    let command = line_command session text world.payloads in
    option_map_or
    (λ reply. reply_text session (line_reply_without_count world.refs r command reply))
    (line_effect session text world.payloads world.refs).reply []
answer_without_count r world event = answer_of world event

-- ---- runs

-- answers to events in their order, and the fault of the event with which they end, if there is one
pub record Run : Type 0 where
  pub answers : List (List ℕ)
  pub fault : Option StepFault

-- a run with one answer more before the others
abbrev pub with_answer : List ℕ → Run → Run
with_answer answer run = record run { answers = answer ∷ run.answers }

-- What events are answered from a world on, without that count, up to the first event that may not
-- stand where it stands. Of the answers are taken those to events that a test chooses.
abbrev pub run_of : ℕ → (World → Event → Bool) → World → List Event → Run
run_of r chosen world [] = record { answers = []; fault = None }
run_of r chosen world (event ∷ events) =
    let rest = run_of r chosen (world_after world event) events in
    option_map_or (λ fault. record { answers = []; fault = Some fault }) (refusal_of world event)
    (if chosen world event then with_answer (answer_without_count r world event) rest else rest)

-- each event is chosen
abbrev pub is_any_event : World → Event → Bool
is_any_event world event = true

-- those that aren't left out
abbrev pub is_kept : ℕ → ℕ → World → Event → Bool
is_kept r v world event = not (is_left_out r v world event)
