-- A replay that came to the record's end.
use Rattle.std.proofs.Common.{◌≡◌, List, [], ◌∷◌, ◌++◌, Option, None, Some, option_map, refl, sym, ◌∙◌, ap, append_assoc}
use Rattle.hx_core.specs.declared.fault.StepFault.{StepFault}
use Rattle.hx_record.specs.Record.{Items, Unknown, Done, Bad, Then}
use Rattle.hx_record.specs.declared.Event.{Event}
use Rattle.hx_record.specs.declared.Placed.{Placed}
use Rattle.hx_replay.specs.Behavior.{AreAllowed, Behavior, answers_to, state_after}
use Rattle.hx_replay.specs.Outcome.{Outcome, ReplayEnd, RecordEnd, RefusedAt, after_answers, ends_with}
use Rattle.hx_replay.specs.Records.{events_of, refusal_code}
use Rattle.hx_replay.specs.Replay.{replay_outcome}

-- the record is a whole one of events that may stand where they stand, and these were answered
pub record Completes {S : Type 0} (b : Behavior S) (state : S) (items : Items) (last : S) : Type 0 where
  pub events : List Event
  pub read : events_of items ≡ Some events
  pub allowed : AreAllowed b state events
  pub answers : (replay_outcome b state items).answers ≡ answers_to b state events ++ b.ending (state_after b state events)
  pub last_is : last ≡ state_after b state events

-- which end it is
abbrev IsRecordEnd : {S : Type 0} → S → Option (ReplayEnd S) → Type 0
IsRecordEnd last None = ⊥
IsRecordEnd last (Some (RecordEnd state)) = last ≡ state
IsRecordEnd last (Some (RefusedAt offset code)) = ⊥

at_record_end : {S : Type 0} → (last : S) (end : Option (ReplayEnd S)) → end ≡ Some (RecordEnd last) → IsRecordEnd last end
at_record_end {S} last end is = rw is refl

completes_then : {S : Type 0} → (b : Behavior S) (state : S) (placed : Placed) (rest : Items) (last : S) (refusal : Option StepFault)
    → b.refusal state placed.event ≡ refusal → (replay_outcome b state (Then placed rest)).end ≡ Some (RecordEnd last)
    → ((replay_outcome b (b.after state placed.event) rest).end ≡ Some (RecordEnd last) → Completes b (b.after state placed.event) rest last)
    → Completes b state (Then placed rest) last
unfolding replay_outcome
completes_then {S} b state placed rest last None allowed is following =
    let here : replay_outcome b state (Then placed rest)
    ≡ after_answers (b.answer state placed.event) (replay_outcome b (b.after state placed.event) rest) = rw allowed refl in
    let later = following (sym (ap (λ (o : Outcome (ReplayEnd S)). o.end) here) ∙ is) in
    let after = b.after state placed.event in
    record {
      events = placed.event ∷ later.events;
      read = ap (λ found. option_map (λ events. placed.event ∷ events) found) later.read;
      allowed = (allowed, later.allowed);
      answers = ap (λ (o : Outcome (ReplayEnd S)). o.answers) here ∙ ap (λ text. b.answer state placed.event ++ text) later.answers
          ∙ sym (append_assoc (b.answer state placed.event) (answers_to b after later.events) (b.ending (state_after b after later.events)));
      last_is = later.last_is;
    }
completes_then {S} b state placed rest last (Some fault) refused is following =
    let here : replay_outcome b state (Then placed rest) ≡ ends_with (Some (RefusedAt placed.offset (refusal_code fault))) = rw refused refl in
    absurd (at_record_end last (Some (RefusedAt placed.offset (refusal_code fault))) (sym (ap (λ (o : Outcome (ReplayEnd S)). o.end) here) ∙ is))

pub completes : {S : Type 0} → (b : Behavior S) (state : S) (items : Items) (last : S)
    → (replay_outcome b state items).end ≡ Some (RecordEnd last) → Completes b state items last
unfolding replay_outcome
completes {S} b state Unknown last is = absurd (at_record_end last None is)
completes {S} b state Done last is =
    record { events = []; read = refl; allowed = tt; answers = refl; last_is = at_record_end last (Some (RecordEnd state)) is }
completes {S} b state (Bad offset code) last is = absurd (at_record_end last (Some (RefusedAt offset code)) is)
completes {S} b state (Then placed rest) last is =
    completes_then b state placed rest last (b.refusal state placed.event) refl is (completes b (b.after state placed.event) rest last)
