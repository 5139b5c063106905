-- Events one after another, without those that work on a version alone, which isn't searched.
use Rattle.std.proofs.Common.{◌≡◌, ℕ, List, [], ◌∷◌, refl, ap, sym, ◌∙◌, inl, inr}
use Rattle.std.specs.Prelude.{Option, None, Some}
use Rattle.std.specs.FinMap.{get-empty}
use Rattle.std.specs.Option.{option_map_or}
use Rattle.std.specs.Ordering.{nat_cmp}
use Rattle.std.proofs.lemmas.Bool.{cases_Bool}
use Rattle.hx_record.specs.declared.Event.{Event}
use Rattle.hx_refs.specs.Numbers.{IsNotSearched}
use Rattle.hx_refs.specs.References.{References}
use Rattle.hx_rules.specs.Programs.{Rules}
use Rattle.hx_cli.specs.Unseen.{other_payload}
use Rattle.hx_core.specs.Steps.{refusal_of, world_after}
use Rattle.hx_core.specs.Unseen.{answer_without_count, is_any_event, events_without, is_kept, is_left_out, run_of, with_answer, AreAlikeWorlds, IsNeverCommitted, Run}
use Rattle.hx_core.specs.World.{first_world, World}
use Rattle.hx_core.specs.declared.fault.StepFault.{StepFault}
use Rattle.hx_core.proofs.UnseenEventLemmas.{left_out_alike, left_out_stands}
use Rattle.hx_core.proofs.UnseenRequestLemmas.{kept_alike, EventsAlike}

abbrev refused_run : StepFault → Run
refused_run fault = record { answers = []; fault = Some fault }

-- a run that begins with an event, by its refusal
abbrev begun_by : Option StepFault → Run → Run
begun_by refusal run = option_map_or refused_run refusal run

never_refused : (refusal : Option StepFault) (run : Run) → refusal ≡ None → begun_by refusal run ≡ run
never_refused refusal run stands = ap (λ (o : Option StepFault). begun_by o run) stands

-- an event that is kept, before runs that are the same
kept_before : (r v : ℕ) (first second : World) (event : Event) (rest other : Run) → EventsAlike r v first second event
    → (refusal_of first event ≡ None → other ≡ rest)
    → begun_by (refusal_of second event) (with_answer (answer_without_count r second event) other)
    ≡ begun_by (refusal_of first event) (with_answer (answer_without_count r first event) rest)
kept_before r v first second event rest other step same =
    ap (λ (refusal : Option StepFault). begun_by refusal (with_answer (answer_without_count r second event) other)) step.refusal
    ∙ ap (λ (answer : List ℕ). begun_by (refusal_of first event) (with_answer answer other)) step.answer
    ∙ go (refusal_of first event) same
  where
    go : (refusal : Option StepFault) → (refusal ≡ None → other ≡ rest)
        → begun_by refusal (with_answer (answer_without_count r first event) other)
        ≡ begun_by refusal (with_answer (answer_without_count r first event) rest)
    go None same = ap (with_answer (answer_without_count r first event)) (same refl)
    go (Some fault) same = refl

pub runs_alike : (r v : ℕ) (events : List Event) (first second : World) → AreAlikeWorlds r v first second → IsNeverCommitted r v first events
    → run_of r is_any_event second (events_without r v first events) ≡ run_of r (is_kept r v) first events
runs_alike r v [] first second both never = refl
runs_alike r v (event ∷ events) first second both never = elim (cases_Bool (is_left_out r v first event)) [
  | inl left ↦
      let stands = left_out_stands r v first event left in
      let later = never stands in
      let rest =
      runs_alike r v events (world_after first event) second (left_out_alike r v first second event both left later.0) later.1 in
      rw left
      (rest ∙ sym (never_refused (refusal_of first event) (run_of r (is_kept r v) (world_after first event) events) stands))
  | inr kept ↦
      let step = kept_alike r v first second event both kept in
      rw kept
      (kept_before r v first second event (run_of r (is_kept r v) (world_after first event) events)
      (run_of r is_any_event (world_after second event) (events_without r v (world_after first event) events)) step
      (λ stands. runs_alike r v events (world_after first event) (world_after second event) step.alike (never stands).1))
]

-- ---- before the first event

pub worlds_begin : (r v : ℕ) (rules : Rules) (refs : References) → IsNotSearched refs r v
    → AreAlikeWorlds r v (first_world rules refs) (first_world rules refs)
worlds_begin r v rules refs apart = record {
  rules = refl;
  connections = refl;
  requests = refl;
  vars = refl;
  management = record {
    not_searched = apart;
    references = refl;
    sessions = λ session. get-empty nat_cmp session ∙ sym (ap (other_payload refs r v) (get-empty nat_cmp session));
  };
}
