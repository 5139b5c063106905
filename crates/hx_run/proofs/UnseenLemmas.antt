-- What is answered to events of which each may stand where it stands.
use Rattle.std.proofs.Common.{◌≡◌, ℕ, Bool, true, false, List, [], ◌∷◌, ◌++◌, refl, ap, sym, ◌∙◌, if◌then◌else◌}
use Rattle.std.specs.Prelude.{Option, None, Some, flat_map}
use Rattle.std.specs.Io.KnownBytes.{Appends}
use Rattle.std.specs.Option.{option_map_or}
use Rattle.hx_core.specs.Steps.{answer_of, refusal_of, world_after}
use Rattle.hx_core.specs.Unseen.{answer_without_count, events_without, is_any_event, is_kept, run_of, with_answer, Run}
use Rattle.hx_core.specs.World.{World}
use Rattle.hx_core.specs.declared.fault.StepFault.{StepFault}
use Rattle.hx_record.specs.declared.Event.{Event}
use Rattle.hx_replay.specs.Program.{initial_world}
use Rattle.hx_replay.specs.Behavior.{AreAllowed, answers_to}
use Rattle.hx_replay.specs.Program.{engine_behavior}
use Rattle.hx_run.specs.Run.{Headline, Setting}
use Rattle.hx_run.specs.Unseen.{chosen_answers, ShowsInNoAnswer, ShowsNoUncommittedVersion}
use Rattle.hx_core.proofs.UnseenRunLemmas.{runs_alike, worlds_begin}
use Rattle.hx_run.proofs.FirstVersionLemmas.{accepted_begins}

-- ---- runs without a fault

abbrev completed_run : List (List ℕ) → Run
completed_run answers = record { answers = answers; fault = None }

abbrev refused_run : StepFault → Run
refused_run fault = record { answers = []; fault = Some fault }

-- a run that begins with an event, by its refusal
abbrev begun_by : Option StepFault → Run → Run
begun_by refusal run = option_map_or refused_run refusal run

never_refused : (refusal : Option StepFault) (run : Run) → refusal ≡ None → begun_by refusal run ≡ run
never_refused refusal run stands = ap (λ (o : Option StepFault). begun_by o run) stands

none_refused : (refusal : Option StepFault) (run : Run) → (begun_by refusal run).fault ≡ None
    → (refusal ≡ None) × (run.fault ≡ None)
none_refused None run ends = (refl, ends)
none_refused (Some fault) run ends = absurd (let bad : Some fault ≡ None = ends in cc)

chosen_step : (chosen : Bool) (answer : List ℕ) (rest : Run) (answers : List (List ℕ)) → rest ≡ completed_run answers
    → (if chosen then with_answer answer rest else rest) ≡ completed_run (if chosen then answer ∷ answers else answers)
chosen_step true answer rest answers is = ap (λ (run : Run). with_answer answer run) is
chosen_step false answer rest answers is = is

-- where each event may stand where it stands, a run is the chosen answers
chosen_run : (r : ℕ) (chosen : World → Event → Bool) (world : World) (events : List Event) → AreAllowed engine_behavior world events
    → run_of r chosen world events ≡ completed_run (chosen_answers (answer_without_count r) chosen world events)
chosen_run r chosen world [] allowed = refl
chosen_run r chosen world (event ∷ events) allowed =
    let rest = run_of r chosen (world_after world event) events in
    let answer = answer_without_count r world event in
    never_refused (refusal_of world event) (if chosen world event then with_answer answer rest else rest) allowed.0
    ∙ chosen_step (chosen world event) answer rest
    (chosen_answers (answer_without_count r) chosen (world_after world event) events)
    (chosen_run r chosen (world_after world event) events allowed.1)

-- a run without a fault is one of such events
allowed_run : (r : ℕ) (world : World) (events : List Event) → (run_of r is_any_event world events).fault ≡ None
    → AreAllowed engine_behavior world events
allowed_run r world [] ends = tt
allowed_run r world (event ∷ events) ends =
    let rest = run_of r is_any_event (world_after world event) events in
    let step = none_refused (refusal_of world event) (with_answer (answer_without_count r world event) rest) ends in
    (step.0, allowed_run r (world_after world event) events step.1)

-- ---- what is written

one_after_another : (world : World) (events : List Event)
    → flat_map (λ (answer : List ℕ). answer) (chosen_answers answer_of is_any_event world events) ≡ answers_to engine_behavior world events
one_after_another world [] = refl
one_after_another world (event ∷ events) =
    ap (λ (rest : List ℕ). answer_of world event ++ rest) (one_after_another (world_after world event) events)

pub shows_in_no_answer : (r v : ℕ) (world : World) (events : List Event) (old new : Option (List ℕ))
    → run_of r is_any_event world (events_without r v world events) ≡ run_of r (is_kept r v) world events
    → AreAllowed engine_behavior world events → Appends old new (answers_to engine_behavior world events)
    → ShowsInNoAnswer r v world events old new
shows_in_no_answer r v world events old new alike allowed written =
    let others = events_without r v world events in
    let kept = chosen_run r (is_kept r v) world events allowed in
    let stand = allowed_run r world others (ap (λ (run : Run). run.fault) (alike ∙ kept)) in
    record {
      written = rw (one_after_another world events) written;
      allowed = stand;
      same = ap (λ (run : Run). run.answers) (sym (chosen_run r is_any_event world others stand) ∙ (alike ∙ kept));
    }

pub shows_no_uncommitted_version : (s : Setting) (old new : Option (List ℕ)) → Headline s old new → ShowsNoUncommittedVersion s old new
shows_no_uncommitted_version s old new done = record {
  done = done;
  unseen = λ r v other never.
      let world = initial_world done.program in
      let apart = accepted_begins s done.program r v done.accepted other in
      shows_in_no_answer r v world done.events old new
      (runs_alike r v done.events world world (worlds_begin r v done.program.rules done.program.references apart) never)
      done.allowed done.written;
}
