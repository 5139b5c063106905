-- Laws of what a record is answered, event by event.
use Rattle.std.proofs.Common.{◌≡◌, ℕ, Bool, true, false, List, [], ◌++◌, Option, None, Some, Result, Ok, Err, IsSomeAnd, option_map, inl, inr, unwrap_or, refl, sym, ◌∙◌, ap, subst, append_assoc, append-nil}
use mathlib.Core.Bool.{true≢false}
use Rattle.std.specs.Io.KnownBytes.{Appends, Consumes, IsAtEnd, Keeps}
use Rattle.std.proofs.KnownBytes.{Appends-trans, Appends-nil, Consumes-trans, Consumes-nil, Consumes-kept}
use Rattle.hx_outside.specs.Prefixes.{AppendsPrefix}
use Rattle.hx_outside.specs.Log.{Log}
use Rattle.hx_outside.specs.declared.SinkFault.{SinkFault}
use Rattle.hx_outside.specs.declared.SinkFault.TheVariants as sink
use Rattle.hx_core.specs.Steps.{IsRefusal}
use Rattle.hx_core.specs.declared.fault.StepFault.{StepFault}
use Rattle.hx_core.specs.declared.fault.StepFault.TheVariants as step
use Rattle.hx_outside.specs.Makers.{ExpressionText}
use Rattle.hx_record.specs.Record.{Items, Unknown, Then, items_from, record_items}
use Rattle.hx_record.specs.State.{State, items_after, decided_items_now, MayFollow}
use Rattle.hx_record.specs.Reading.{AnswersNext, Decides, Fills}
use Rattle.hx_record.specs.declared.Event.{Event}
use Rattle.hx_record.specs.declared.Next.{Next}
use Rattle.hx_record.specs.declared.Next.TheVariants as next
use Rattle.hx_record.specs.declared.Placed.{Placed}
use Rattle.hx_record.specs.declared.RecordFault.{RecordFault}
use Rattle.hx_record.specs.declared.RecordFault.TheVariants as reader
use Rattle.hx_replay.specs.Behavior.{Behavior}
use Rattle.hx_replay.specs.Gathering.{AnswersEvent, GathersAnswer, IsFailure, Passes, Replays, fault_of_reader, fault_of_sink, replay_end}
use Rattle.hx_replay.specs.Outcome.{Outcome, ReplayEnd, RecordEnd, RefusedAt, after_answers, ends_with}
use Rattle.hx_replay.specs.Records.{bytes_given, IsRecord, record_limit, refusal_code}
use Rattle.hx_replay.specs.Replay.{BeginsWithDecided, ItemsAskFor, ReplayAsksLast, WritesBeforeReading, WritesDecided, event_outcome, replay_outcome, record_outcome, decided_outcome}
use Rattle.hx_replay.specs.declared.replay_fault.ReplayFault.{ReplayFault}
use Rattle.hx_replay.specs.declared.replay_fault.ReplayFault.TheVariants as replay
use Rattle.hx_replay.proofs.LogLemmas.{before_none, before_read, given_and_more, since_start, HaveGiven}
use Rattle.hx_replay.proofs.OutcomeLemmas.{shorter_prefix}
use Rattle.hx_replay.proofs.WrittenLemmas.{written_more}

-- an expression that is asked for at the one items, from the one state on, is asked for at the other ones, from the other
abbrev pub AskAlike : {S : Type 0} → (S → Event → ExpressionText → Type 0) → Behavior S → S → Items → S → Items → Type 0
AskAlike AsksFor b state items first all = (text : ExpressionText) → ItemsAskFor b AsksFor state items text → ItemsAskFor b AsksFor first all text

-- What was taken and answered so far. Whatever follows the bytes that the reader has, the record's outcome is the
-- answers that were written, those that are gathered, and then what the items before are answered, and these stand to
-- the items after as `what` says. An expression that is asked for at the items before is asked for in the record. The
-- bytes are those that the reads gave, and what all reads but the last decide is written.
pub record Progress {S : Type 0} (AsksFor : S → Event → ExpressionText → Type 0) (what : Items → Items → Type 0) (b : Behavior S) (start state : S) (s : State)
    (left left' : Option (List ℕ)) (log log' : Option Log) (old new : Option (List ℕ)) (gathered : List ℕ) : Type 0 where
  pub took : List ℕ
  pub consumed : Consumes left left' took
  pub wrote : List ℕ
  pub appended : Appends old new wrote
  pub given : HaveGiven log log' took
  pub before_reading : WritesBeforeReading b start log log' old new
  pub limit : s.limit ≡ record_limit
  pub same : (ends : Bool) (more : List ℕ) → MayFollow s ends more
      → (before : Items) × what before (items_after s ends more)
      × (replay_outcome b start (items_from ends 0 (took ++ more) record_limit)
      ≡ after_answers (wrote ++ gathered) (replay_outcome b state before))
      × AskAlike AsksFor b state before start (items_from ends 0 (took ++ more) record_limit)

-- between two events the items before are those after
abbrev pub AreSame : Items → Items → Type 0
AreSame before after = before ≡ after

-- after a call of the reader they differ by its answer
abbrev pub Answer : Result Next RecordFault → Items → Items → Type 0
Answer result before after = AnswersNext before after result

progress_start : {S : Type 0} → (AsksFor : S → Event → ExpressionText → Type 0) (b : Behavior S) (start : S) (left : Option (List ℕ)) (log : Option Log) (out : Option (List ℕ))
    → Progress AsksFor AreSame b start start (record { limit = record_limit; at = 0; pending = []; ended = false }) left left log log out out []
progress_start {S} AsksFor b start left log out = record {
  took = [];
  consumed = Consumes-nil left;
  wrote = [];
  appended = Appends-nil out;
  given = since_start log (λ reads. let none : List ℕ = [] in bytes_given reads ≡ none) refl;
  before_reading = before_none log (λ bytes. BeginsWithDecided b start bytes out out);
  limit = refl;
  same = λ ends more may. (items_from ends 0 more record_limit, refl, refl, λ text asked. asked);
}

pub progress_begins : {S : Type 0} → (AsksFor : S → Event → ExpressionText → Type 0) (b : Behavior S) (start : S) (s : State) (left : Option (List ℕ)) (log : Option Log) (out : Option (List ℕ))
    → s ≡ record { limit = record_limit; at = 0; pending = []; ended = false } → Progress AsksFor AreSame b start start s left left log log out out []
progress_begins AsksFor b start s left log out begins =
    subst (λ (t : State). Progress AsksFor AreSame b start start t left left log log out out []) (sym begins) (progress_start AsksFor b start left log out)

after_twice : {S : Type 0} → (first second : List ℕ) (outcome : Outcome (ReplayEnd S))
    → after_answers first (after_answers second outcome) ≡ after_answers (first ++ second) outcome
after_twice {S} first second outcome = ap (λ t. record { answers = t; end = outcome.end }) (sym (append_assoc first second outcome.answers))

-- a fault that `?` hands on: which it was by the result, and the result by which it was
pub handed_on : (result : Result (Unit {0}) ReplayFault) (given made wanted : ReplayFault) → result ≡ Err given → given ≡ made → result ≡ Err wanted → made ≡ wanted
handed_on result given made wanted returned from is = cc

abbrev failed : ReplayFault → Result (Unit {0}) ReplayFault
failed fault = Err fault

pub handed_back : (result : Result (Unit {0}) ReplayFault) (given made wanted : ReplayFault) → result ≡ Err given → given ≡ made
    → failed made ≡ failed wanted → result ≡ Err wanted
handed_back result given made wanted returned from is = returned ∙ ap failed from ∙ is

-- a call of the reader that reads nothing
pub progress_decides : {S : Type 0} → {log log' : Option Log} → (AsksFor : S → Event → ExpressionText → Type 0) (b : Behavior S) (start state : S) (s s' : State) (left left' old new : Option (List ℕ)) (gathered : List ℕ)
    (result : Result Next RecordFault) → Progress AsksFor AreSame b start state s left left' log log' old new gathered → Decides s s' result
    → Progress AsksFor (Answer result) b start state s' left left' log log' old new gathered
progress_decides {S} AsksFor b start state s s' left left' old new gathered result p d = record {
  took = p.took;
  consumed = p.consumed;
  wrote = p.wrote;
  appended = p.appended;
  given = p.given;
  before_reading = p.before_reading;
  limit = d.limit ∙ p.limit;
  same = λ ends more may.
      let may_before : MayFollow s ends more = λ ended. may (d.ended ∙ ended) in
      let (before, is, outcome, asks) = p.same ends more may_before in (
        items_after s ends more,
        d.answers ends more may,
        outcome ∙ ap (λ i. after_answers (p.wrote ++ gathered) (replay_outcome b state i)) is,
        λ text asked. asks text (subst (λ i. ItemsAskFor b AsksFor state i text) (sym is) asked),
      );
}

-- what the bytes that were taken decide, where they decide no more than what was answered
pub all_decided : {S : Type 0} → {log log' : Option Log} → (AsksFor : S → Event → ExpressionText → Type 0) (b : Behavior S) (start state : S) (s : State) (left left' old new : Option (List ℕ)) (gathered : List ℕ)
    → (p : Progress AsksFor (Answer (Ok next.Undecided)) b start state s left left' log log' old new gathered) → s.ended ≡ false → decided_items_now s ≡ Unknown
    → decided_outcome b start p.took ≡ after_answers (p.wrote ++ gathered) (ends_with None)
unfolding replay_outcome
all_decided {S} AsksFor b start state s left left' old new gathered p going undecided =
    let (before, stand, outcome, _) = p.same false [] (λ ended. absurd (true≢false (sym ended ∙ going))) in
    let unknown : items_after s false [] ≡ Unknown = ap (λ ends. items_after s ends []) (sym going) ∙ undecided in
    ap (λ t. replay_outcome b start (items_from false 0 t record_limit)) (sym (append-nil p.took)) ∙ outcome
    ∙ ap (λ i. after_answers (p.wrote ++ gathered) (replay_outcome b state i)) (sym stand ∙ unknown)

-- all of that is written, before more of the record is read
pub decided_written : {S : Type 0} → {log log' : Option Log} → (AsksFor : S → Event → ExpressionText → Type 0) (b : Behavior S) (start state : S) (s : State) (left left' old new new' : Option (List ℕ))
    (gathered : List ℕ) → (p : Progress AsksFor (Answer (Ok next.Undecided)) b start state s left left' log log' old new gathered) → s.ended ≡ false
    → decided_items_now s ≡ Unknown → Appends new new' gathered → BeginsWithDecided b start p.took old new'
decided_written {S} AsksFor b start state s left left' old new new' gathered p going undecided appended =
    let all = ap (λ (o : Outcome (ReplayEnd S)). o.answers) (all_decided AsksFor b start state s left left' old new gathered p going undecided) in
    record {
      rest = [];
      written = subst (λ (text : List ℕ). Appends old new' text)
          (sym (append-nil (decided_outcome b start p.took).answers ∙ all ∙ append-nil (p.wrote ++ gathered)))
          (Appends-trans old new new' p.wrote gathered p.appended appended);
    }

-- all that was gathered is written, and more of the record is read
pub progress_fills : {S : Type 0} → {log log' log'' : Option Log} → (AsksFor : S → Event → ExpressionText → Type 0) (b : Behavior S) (start state : S) (s s' : State) (left left' left'' old new new' : Option (List ℕ))
    (gathered : List ℕ) → Progress AsksFor (Answer (Ok next.Undecided)) b start state s left left' log log' old new gathered → s.ended ≡ false
    → decided_items_now s ≡ Unknown → Appends new new' gathered → Fills s s' left' left'' log' log'' → Progress AsksFor AreSame b start state s' left left'' log log'' old new' []
progress_fills {S} {log} {log'} {log''} AsksFor b start state s s' left left' left'' old new new' gathered p going undecided appended f = record {
  took = p.took ++ f.got;
  consumed = Consumes-trans left left' left'' p.took f.got p.consumed f.consumed;
  wrote = p.wrote ++ gathered;
  appended = Appends-trans old new new' p.wrote gathered p.appended appended;
  given = given_and_more log log' log'' p.took f.got p.given f.logged;
  before_reading = before_read log log' log'' (Some f.got) p.took (λ bytes. BeginsWithDecided b start bytes old new') p.given f.logged
      (decided_written AsksFor b start state s left left' old new new' gathered p going undecided appended);
  limit = f.limit ∙ p.limit;
  same = λ ends more may.
      let (before, is, outcome, asks) = p.same ends (f.got ++ more) (λ ended. absurd (true≢false (sym ended ∙ going))) in
      let same : before ≡ items_after s' ends more = sym is ∙ f.items ends more in (
        items_after s' ends more,
        refl,
        rw (append_assoc p.took f.got more, append-nil (p.wrote ++ gathered))
            (outcome ∙ ap (λ i. after_answers (p.wrote ++ gathered) (replay_outcome b state i)) same),
        λ text asked. rw (append_assoc p.took f.got more) (asks text (subst (λ i. ItemsAskFor b AsksFor state i text) (sym same) asked)),
      );
}

-- an event that is answered
pub progress_answers : {S : Type 0} → {log log' : Option Log} → (AsksFor : S → Event → ExpressionText → Type 0) (b : Behavior S) (start state after : S) (s : State) (left left' old new new' : Option (List ℕ)) (placed : Placed)
    (gathered gathered' : List ℕ) → Progress AsksFor (Answer (Ok (next.Event placed))) b start state s left left' log log' old new gathered
    → AnswersEvent b state after placed new new' gathered gathered' (Ok tt) → Progress AsksFor AreSame b start after s left left' log log' old new' gathered'
unfolding replay_outcome
progress_answers {S} {log} {log'} AsksFor b start state after s left left' old new new' placed gathered gathered' p (allowed, goes, passes) = record {
  took = p.took;
  consumed = p.consumed;
  wrote = p.wrote ++ passes.wrote;
  appended = Appends-trans old new new' p.wrote passes.wrote p.appended passes.appended;
  given = p.given;
  before_reading = written_more b start log log' old new new' passes.wrote p.before_reading passes.appended;
  limit = p.limit;
  same = λ ends more may.
      let (before, stand, outcome, asks) = p.same ends more may in
      let rest = items_after s ends more in
      let here : replay_outcome b state (Then placed rest)
      ≡ after_answers (b.answer state placed.event) (replay_outcome b after rest) = rw (allowed, goes) refl in
      let text : p.wrote ++ gathered ++ b.answer state placed.event ≡ p.wrote ++ passes.wrote ++ gathered' =
      append_assoc p.wrote gathered (b.answer state placed.event)
      ∙ ap (λ t. p.wrote ++ t) (passes.whole ∙ ap (λ t. passes.wrote ++ t) (append-nil gathered'))
      ∙ sym (append_assoc p.wrote passes.wrote gathered') in (
        rest,
        refl,
        outcome ∙ ap (λ i. after_answers (p.wrote ++ gathered) (replay_outcome b state i)) stand
            ∙ ap (λ o. after_answers (p.wrote ++ gathered) o) here
            ∙ after_twice (p.wrote ++ gathered) (b.answer state placed.event) (replay_outcome b after rest)
            ∙ ap (λ t. after_answers t (replay_outcome b after rest)) text,
        λ asked_for asked. asks asked_for (subst (λ i. ItemsAskFor b AsksFor state i asked_for) (sym stand)
            (allowed, inr (subst (λ (later : S). ItemsAskFor b AsksFor later rest asked_for) goes asked))),
      );
}

-- what follows the bytes that were taken: all that the source has left, where that is known
abbrev rest_of : Option (List ℕ) → List ℕ
rest_of left = unwrap_or left []

record_is : (left left' : Option (List ℕ)) (took : List ℕ) → Consumes left left' took → IsRecord left (took ++ rest_of left')
record_is None left' took consumed = tt
record_is (Some all) None took consumed = absurd consumed
record_is (Some all) (Some left') took consumed = sym consumed

may_follow : (s : State) (left' : Option (List ℕ)) → (s.ended ≡ true → IsAtEnd left') → MayFollow s true (rest_of left')
may_follow s None at_end ended = (refl, refl)
may_follow s (Some left') at_end ended = (at_end ended, refl)

-- the whole record, seen from an event of it
record Seen {S : Type 0} (AsksFor : S → Event → ExpressionText → Type 0) (what : Items → Items → Type 0) (b : Behavior S) (start state : S) (left old new : Option (List ℕ)) (gathered : List ℕ) : Type 0 where
  bytes : List ℕ
  of_source : IsRecord left bytes
  wrote : List ℕ
  appended : Appends old new wrote
  before : Items
  after : Items
  stand : what before after
  outcome : record_outcome b start bytes ≡ after_answers (wrote ++ gathered) (replay_outcome b state before)
  asks : AskAlike AsksFor b state before start (record_items bytes record_limit)

seen : {S : Type 0} → {log log' : Option Log} → (AsksFor : S → Event → ExpressionText → Type 0) (what : Items → Items → Type 0) (b : Behavior S) (start state : S) (s : State) (left left' old new : Option (List ℕ)) (gathered : List ℕ)
    → Progress AsksFor what b start state s left left' log log' old new gathered → (s.ended ≡ true → IsAtEnd left') → Seen AsksFor what b start state left old new gathered
seen {S} AsksFor what b start state s left left' old new gathered p at_end =
    let (before, stand, outcome, asks) = p.same true (rest_of left') (may_follow s left' at_end) in
    record {
      bytes = p.took ++ rest_of left';
      of_source = record_is left left' p.took p.consumed;
      wrote = p.wrote;
      appended = p.appended;
      before = before;
      after = items_after s true (rest_of left');
      stand = stand;
      outcome = outcome;
      asks = asks;
    }

-- the record's end, with what is written there after the answers
pub replays_end : {S : Type 0} → {log log' : Option Log} → (AsksFor : S → Event → ExpressionText → Type 0) (b : Behavior S) (start state last : S) (s : State) (left left' old new : Option (List ℕ))
    (gathered gathered' : List ℕ) → Progress AsksFor (Answer (Ok next.End)) b start state s left left' log log' old new gathered → (s.ended ≡ true → IsAtEnd left')
    → gathered' ≡ gathered ++ b.ending state → last ≡ state → Replays b start last left old new gathered' (Ok tt)
unfolding replay_outcome
replays_end {S} AsksFor b start state last s left left' old new gathered gathered' p at_end more same =
    let v = seen AsksFor (Answer (Ok next.End)) b start state s left left' old new gathered p at_end in
    let done : record_outcome b start v.bytes ≡ after_answers (v.wrote ++ gathered) (record { answers = b.ending state; end = Some (RecordEnd state) }) =
    v.outcome ∙ ap (λ i. after_answers (v.wrote ++ gathered) (replay_outcome b state i)) v.stand.0 in
    record {
      outcome = record_outcome b start v.bytes;
      is_such = record { bytes = v.bytes; of_source = v.of_source; is = refl };
      wrote = v.wrote;
      appended = v.appended;
      answers = (
        ap (λ (o : Outcome (ReplayEnd S)). o.end) done ∙ ap (λ k. Some (RecordEnd k)) (sym same),
        ap (λ (o : Outcome (ReplayEnd S)). o.answers) done ∙ append_assoc v.wrote gathered (b.ending state) ∙ ap (λ t. v.wrote ++ t) (sym more),
      );
    }

-- where memory runs out, a prefix of the answers is written or gathered
pub replays_part : {S : Type 0} → {log log' : Option Log} → (AsksFor : S → Event → ExpressionText → Type 0) (what : Items → Items → Type 0) (b : Behavior S) (start state last : S) (s : State) (left left' old new : Option (List ℕ)) (gathered : List ℕ)
    → Progress AsksFor what b start state s left left' log log' old new gathered → (s.ended ≡ true → IsAtEnd left')
    → (fault : ReplayFault) → replay_end last (Err fault) ≡ None → Replays b start last left old new gathered (Err fault)
replays_part {S} AsksFor what b start state last s left left' old new gathered p at_end fault undecided =
    let v = seen AsksFor what b start state s left left' old new gathered p at_end in
    record {
      outcome = record_outcome b start v.bytes;
      is_such = record { bytes = v.bytes; of_source = v.of_source; is = refl };
      wrote = v.wrote;
      appended = v.appended;
      answers = rw undecided ((replay_outcome b state v.before).answers, ap (λ (o : Outcome (ReplayEnd S)). o.answers) v.outcome);
    }

-- a fault of the reader, which reads nothing
pub replays_fault : {S : Type 0} → {log log' : Option Log} → (AsksFor : S → Event → ExpressionText → Type 0) (b : Behavior S) (start state : S) (s : State) (left left' old new : Option (List ℕ)) (gathered : List ℕ) (fault : RecordFault)
    → Progress AsksFor (Answer (Err fault)) b start state s left left' log log' old new gathered → (s.ended ≡ true → IsAtEnd left')
    → Replays b start state left old new gathered (Err (fault_of_reader fault))
unfolding replay_outcome
replays_fault {S} AsksFor b start state s left left' old new gathered (reader.Bad offset code) p at_end =
    let v = seen AsksFor (Answer (Err (reader.Bad offset code))) b start state s left left' old new gathered p at_end in
    let done : record_outcome b start v.bytes ≡ after_answers (v.wrote ++ gathered) (ends_with (Some (RefusedAt offset code))) =
    v.outcome ∙ ap (λ i. after_answers (v.wrote ++ gathered) (replay_outcome b state i)) v.stand.0 in
    record {
      outcome = record_outcome b start v.bytes;
      is_such = record { bytes = v.bytes; of_source = v.of_source; is = refl };
      wrote = v.wrote;
      appended = v.appended;
      answers = (ap (λ (o : Outcome (ReplayEnd S)). o.end) done, ap (λ (o : Outcome (ReplayEnd S)). o.answers) done ∙ append-nil (v.wrote ++ gathered));
    }
replays_fault {S} AsksFor b start state s left left' old new gathered reader.Failed p at_end =
    replays_part AsksFor (Answer (Err reader.Failed)) b start state state s left left' old new gathered p at_end replay.Source refl
replays_fault {S} AsksFor b start state s left left' old new gathered reader.NoMemory p at_end =
    replays_part AsksFor (Answer (Err reader.NoMemory)) b start state state s left left' old new gathered p at_end replay.NoMemory refl

-- such a fault is none of the source
pub no_source : (before after : State) (fault : RecordFault) → Decides before after (Err fault) → fault_of_reader fault ≡ replay.Source → ⊥
no_source before after (reader.Bad offset code) d is = cc
no_source before after reader.Failed d is = d.answers true [] (λ _. (refl, refl))
no_source before after reader.NoMemory d is = cc

-- no failure ends what is decided
failure_end : {S : Type 0} → (last : S) (fault : ReplayFault) → IsFailure fault → replay_end last (Err fault) ≡ None
failure_end last (replay.RecordRefused offset code) is = absurd is
failure_end last replay.Source is = refl
failure_end last replay.Sink is = refl
failure_end last replay.TooLarge is = absurd is
failure_end last replay.NoMemory is = refl

pub sink_failure : (fault : SinkFault) → IsFailure (fault_of_sink fault)
sink_failure sink.Failed = tt
sink_failure sink.NoMemory = tt

-- an event that has no answer
pub no_answer : {S : Type 0} → (b : Behavior S) (state after : S) (event : Event) (old new : List ℕ) (fault : StepFault) → (IsRefusal fault → b.refusal state event ≡ Some fault)
    → (¬ (IsRefusal fault) → b.refusal state event ≡ None) → new ≡ old → GathersAnswer b state after event old new (Err fault)
no_answer {S} b state after event old new step.UnknownConn refused allowed same = (refused tt, same)
no_answer {S} b state after event old new step.ConnOpen refused allowed same = (refused tt, same)
no_answer {S} b state after event old new step.TooLarge refused allowed same = (allowed (λ is. is), same)
no_answer {S} b state after event old new step.NoMemory refused allowed same = (allowed (λ is. is), same)

-- an event that is answered, and the sink fails
pub event_lost : {S : Type 0} → (b : Behavior S) (state after : S) (placed : Placed) (old new : Option (List ℕ)) (gathered mid gathered' : List ℕ)
    (fault : SinkFault) → GathersAnswer b state after placed.event gathered mid (Ok tt) → AppendsPrefix old new mid → gathered' ≡ []
    → AnswersEvent b state after placed old new gathered gathered' (Err (fault_of_sink fault))
event_lost {S} b state after placed old new gathered mid gathered' sink.Failed (allowed, goes, is) part empty =
    (allowed, (part.rest, record { wrote = part.prefix; appended = part.appended; whole = rw empty (sym is ∙ part.whole) }))
event_lost {S} b state after placed old new gathered mid gathered' sink.NoMemory (allowed, goes, is) part empty =
    (allowed, (part.rest, record { wrote = part.prefix; appended = part.appended; whole = rw empty (sym is ∙ part.whole) }))

-- an event for whose answer memory runs out, or an expression is too large
pub event_unanswered : {S : Type 0} → (b : Behavior S) (state after : S) (placed : Placed) (old : Option (List ℕ)) (gathered gathered' : List ℕ)
    → GathersAnswer b state after placed.event gathered gathered' (Err step.NoMemory)
    → AnswersEvent b state after placed old old gathered gathered' (Err replay.NoMemory)
event_unanswered {S} b state after placed old gathered gathered' (allowed, is) = (
  allowed,
  (
    b.answer state placed.event,
    record { wrote = []; appended = Appends-nil old; whole = ap (λ t. t ++ b.answer state placed.event) (sym is) },
  ),
)

pub event_too_large : {S : Type 0} → (b : Behavior S) (state after : S) (placed : Placed) (old : Option (List ℕ)) (gathered gathered' : List ℕ)
    → GathersAnswer b state after placed.event gathered gathered' (Err step.TooLarge)
    → AnswersEvent b state after placed old old gathered gathered' (Err replay.TooLarge)
event_too_large {S} b state after placed old gathered gathered' steps =
    event_unanswered b state after placed old gathered gathered' steps

-- of what was gathered a prefix was written, and the rest is lost
pub replays_lost : {S : Type 0} → {log log' : Option Log} → (AsksFor : S → Event → ExpressionText → Type 0) (b : Behavior S) (start state : S) (s : State) (left left' old new new' : Option (List ℕ)) (gathered : List ℕ)
    (result : Result Next RecordFault) → Progress AsksFor (Answer result) b start state s left left' log log' old new gathered → (s.ended ≡ true → IsAtEnd left')
    → AppendsPrefix new new' gathered → (fault : ReplayFault) → IsFailure fault → Replays b start state left old new' [] (Err fault)
replays_lost {S} AsksFor b start state s left left' old new new' gathered result p at_end part fault failure =
    let v = seen AsksFor (Answer result) b start state s left left' old new gathered p at_end in
    let whole : v.wrote ++ gathered ≡ (v.wrote ++ part.prefix ++ []) ++ part.rest =
    ap (λ t. v.wrote ++ t) part.whole ∙ sym (append_assoc v.wrote part.prefix part.rest)
    ∙ ap (λ t. t ++ part.rest) (sym (append-nil (v.wrote ++ part.prefix))) in
    record {
      outcome = record_outcome b start v.bytes;
      is_such = record { bytes = v.bytes; of_source = v.of_source; is = refl };
      wrote = v.wrote ++ part.prefix;
      appended = Appends-trans old new new' v.wrote part.prefix v.appended part.appended;
      answers = rw (failure_end state fault failure) (shorter_prefix None (record_outcome b start v.bytes) (v.wrote ++ gathered)
          (v.wrote ++ part.prefix ++ []) part.rest ((replay_outcome b state v.before).answers, ap (λ (o : Outcome (ReplayEnd S)). o.answers) v.outcome) whole);
    }

-- the source failed where the bytes that the reader has decide nothing more
pub writes_decided : {S : Type 0} → {log log' : Option Log} → (AsksFor : S → Event → ExpressionText → Type 0) (b : Behavior S) (start state : S) (s : State) (left left' left'' old new new' : Option (List ℕ)) (gathered : List ℕ)
    → Progress AsksFor (Answer (Ok next.Undecided)) b start state s left left' log log' old new gathered → s.ended ≡ false → decided_items_now s ≡ Unknown
    → Keeps left' left'' → Appends new new' gathered → WritesDecided b start left left'' old new'
writes_decided {S} AsksFor b start state s left left' left'' old new new' gathered p going undecided kept appended =
    let here = all_decided AsksFor b start state s left left' old new gathered p going undecided in
    record {
      took = p.took;
      consumed = Consumes-kept left left' left'' p.took p.consumed kept;
      going_on = ap (λ (o : Outcome (ReplayEnd S)). o.end) here;
      written = rw (ap (λ (o : Outcome (ReplayEnd S)). o.answers) here, append-nil (p.wrote ++ gathered))
          (Appends-trans old new new' p.wrote gathered p.appended appended);
    }

-- an event of whose answer, with those gathered before, a part is lost
event_part : {S : Type 0} → {log log' : Option Log} → (AsksFor : S → Event → ExpressionText → Type 0) (b : Behavior S) (start state after : S) (s : State) (left left' old new new' : Option (List ℕ)) (placed : Placed)
    (gathered gathered' : List ℕ) (fault : ReplayFault) → Progress AsksFor (Answer (Ok (next.Event placed))) b start state s left left' log log' old new gathered
    → (s.ended ≡ true → IsAtEnd left') → replay_end after (Err fault) ≡ None → b.refusal state placed.event ≡ None → (rest : List ℕ)
    → Passes new new' (gathered ++ b.answer state placed.event) gathered' rest → Replays b start after left old new' gathered' (Err fault)
unfolding replay_outcome
event_part {S} AsksFor b start state after s left left' old new new' placed gathered gathered' fault p at_end undecided allowed rest passes =
    let v = seen AsksFor (Answer (Ok (next.Event placed))) b start state s left left' old new gathered p at_end in
    let answer = b.answer state placed.event in
    let following = replay_outcome b (b.after state placed.event) v.after in
    let here : replay_outcome b state (Then placed v.after) ≡ after_answers answer following = rw allowed refl in
    let outcome : record_outcome b start v.bytes ≡ after_answers (v.wrote ++ gathered ++ answer) following =
    v.outcome ∙ ap (λ i. after_answers (v.wrote ++ gathered) (replay_outcome b state i)) v.stand
    ∙ ap (λ o. after_answers (v.wrote ++ gathered) o) here ∙ after_twice (v.wrote ++ gathered) answer following in
    let whole : v.wrote ++ gathered ++ answer ≡ (v.wrote ++ passes.wrote ++ gathered') ++ rest =
    append_assoc v.wrote gathered answer ∙ ap (λ t. v.wrote ++ t) passes.whole
    ∙ sym (append_assoc v.wrote passes.wrote (gathered' ++ rest)) ∙ sym (append_assoc (v.wrote ++ passes.wrote) gathered' rest) in
    record {
      outcome = record_outcome b start v.bytes;
      is_such = record { bytes = v.bytes; of_source = v.of_source; is = refl };
      wrote = v.wrote ++ passes.wrote;
      appended = Appends-trans old new new' v.wrote passes.wrote v.appended passes.appended;
      answers = rw undecided (shorter_prefix None (record_outcome b start v.bytes) (v.wrote ++ gathered ++ answer)
          (v.wrote ++ passes.wrote ++ gathered') rest (following.answers, ap (λ (o : Outcome (ReplayEnd S)). o.answers) outcome) whole);
    }

-- the outcome of an event that is refused with a code
refused_by : {S : Type 0} → (refusal : Option StepFault) (offset code : ℕ) (answer : List ℕ) (following : Outcome (ReplayEnd S)) → option_map refusal_code refusal ≡ Some code
    → event_outcome refusal offset answer following ≡ ends_with (Some (RefusedAt offset code))
refused_by {S} None offset code answer following is = cc
refused_by {S} (Some refusal) offset code answer following is =
    let same : refusal_code refusal ≡ code = cc in ap (λ c. ends_with (Some (RefusedAt offset c))) same

-- an event that ends the replay
pub replays_event : {S : Type 0} → {log log' : Option Log} → (AsksFor : S → Event → ExpressionText → Type 0) (b : Behavior S) (start state after : S) (s : State) (left left' old new new' : Option (List ℕ)) (placed : Placed)
    (gathered gathered' : List ℕ) (fault : ReplayFault) → Progress AsksFor (Answer (Ok (next.Event placed))) b start state s left left' log log' old new gathered
    → (s.ended ≡ true → IsAtEnd left')
    → AnswersEvent b state after placed new new' gathered gathered' (Err fault) → Replays b start after left old new' gathered' (Err fault)
unfolding replay_outcome
replays_event {S} AsksFor b start state after s left left' old new new' placed gathered gathered' (replay.RecordRefused offset code) p at_end (refused, here, nothing, stays) =
    let v = seen AsksFor (Answer (Ok (next.Event placed))) b start state s left left' old new gathered p at_end in
    let done : record_outcome b start v.bytes ≡ after_answers (v.wrote ++ gathered) (ends_with (Some (RefusedAt placed.offset code))) =
    v.outcome ∙ ap (λ i. after_answers (v.wrote ++ gathered) (replay_outcome b state i)) v.stand
    ∙ ap (λ o. after_answers (v.wrote ++ gathered) o) (refused_by (b.refusal state placed.event) placed.offset code (b.answer state placed.event)
    (replay_outcome b (b.after state placed.event) v.after) refused) in
    record {
      outcome = record_outcome b start v.bytes;
      is_such = record { bytes = v.bytes; of_source = v.of_source; is = refl };
      wrote = v.wrote;
      appended = rw (append-nil v.wrote) at (Appends-trans old new new' v.wrote [] v.appended nothing);
      answers = (
        ap (λ (o : Outcome (ReplayEnd S)). o.end) done ∙ ap (λ k. Some (RefusedAt k code)) (sym here),
        ap (λ (o : Outcome (ReplayEnd S)). o.answers) done ∙ append-nil (v.wrote ++ gathered) ∙ ap (λ t. v.wrote ++ t) (sym stays),
      );
    }
replays_event {S} AsksFor b start state after s left left' old new new' placed gathered gathered' replay.Source p at_end event =
    event_part AsksFor b start state after s left left' old new new' placed gathered gathered' replay.Source p at_end refl event.0 event.1.0 event.1.1
replays_event {S} AsksFor b start state after s left left' old new new' placed gathered gathered' replay.Sink p at_end event =
    event_part AsksFor b start state after s left left' old new new' placed gathered gathered' replay.Sink p at_end refl event.0 event.1.0 event.1.1
replays_event {S} AsksFor b start state after s left left' old new new' placed gathered gathered' replay.NoMemory p at_end event =
    event_part AsksFor b start state after s left left' old new new' placed gathered gathered' replay.NoMemory p at_end refl event.0 event.1.0 event.1.1
replays_event {S} AsksFor b start state after s left left' old new new' placed gathered gathered' replay.TooLarge p at_end event =
    event_part AsksFor b start state after s left left' old new new' placed gathered gathered' replay.TooLarge p at_end refl event.0 event.1.0 event.1.1

-- an event at which the text that was too large is asked for
asked_there : {S : Type 0} → (AsksFor : S → Event → ExpressionText → Type 0) (b : Behavior S) (state : S) (placed : Placed) (rest : Items) (first : S) (all : Items)
    (large : Option ExpressionText) → b.refusal state placed.event ≡ None → AskAlike AsksFor b state (Then placed rest) first all
    → IsSomeAnd large (AsksFor state placed.event) → IsSomeAnd large (ItemsAskFor b AsksFor first all)
asked_there {S} AsksFor b state placed rest first all None allowed asks there = absurd there
asked_there {S} AsksFor b state placed rest first all (Some text) allowed asks there = asks text (allowed, inl there)

pub replays_asks : {S : Type 0} → {log log' : Option Log} → (AsksFor : S → Event → ExpressionText → Type 0) (b : Behavior S) (start state after : S) (s : State) (left left' old new new' : Option (List ℕ)) (placed : Placed)
    (gathered gathered' : List ℕ) (fault : ReplayFault) (large : Option ExpressionText)
    → Progress AsksFor (Answer (Ok (next.Event placed))) b start state s left left' log log' old new gathered → (s.ended ≡ true → IsAtEnd left')
    → fault ≡ replay.TooLarge → AnswersEvent b state after placed new new' gathered gathered' (Err fault)
    → IsSomeAnd large (AsksFor state placed.event) → ReplayAsksLast b AsksFor start left large
replays_asks {S} AsksFor b start state after s left left' old new new' placed gathered gathered' fault large p at_end is event there =
    let v = seen AsksFor (Answer (Ok (next.Event placed))) b start state s left left' old new gathered p at_end in
    let all = record_items v.bytes record_limit in
    let here : AnswersEvent b state after placed new new' gathered gathered' (Err replay.TooLarge) =
    subst (λ (f : ReplayFault). AnswersEvent b state after placed new new' gathered gathered' (Err f)) is event in
    record {
      bytes = v.bytes;
      of_source = v.of_source;
      asks = asked_there AsksFor b state placed v.after start all large here.0
          (subst (λ (i : Items). AskAlike AsksFor b state i start all) v.stand v.asks) there;
    }

-- what is too large comes from no other part
pub failure_not_large : (fault : ReplayFault) → IsFailure fault → fault ≡ replay.TooLarge → ⊥
failure_not_large fault failure is = subst IsFailure is failure

pub reader_not_large : (fault : RecordFault) → fault_of_reader fault ≡ replay.TooLarge → ⊥
reader_not_large (reader.Bad offset code) is = cc
reader_not_large reader.Failed is = cc
reader_not_large reader.NoMemory is = cc

pub sink_not_large : (fault : SinkFault) → fault_of_sink fault ≡ replay.TooLarge → ⊥
sink_not_large fault is = failure_not_large (fault_of_sink fault) (sink_failure fault) is

-- a fault of the sink is its failure, or that memory ran out
pub sink_kinds : (fault : SinkFault) → ¬ (fault_of_sink fault ≡ replay.Sink) → ¬ (fault_of_sink fault ≡ replay.NoMemory) → ⊥
sink_kinds sink.Failed no_sink no_memory = no_sink refl
sink_kinds sink.NoMemory no_sink no_memory = no_memory refl

-- the answers that were gathered are written at the end
pub replays_written : {S : Type 0} → (b : Behavior S) (start last : S) (left old new new' : Option (List ℕ)) (gathered : List ℕ) (result : Result (Unit {0}) ReplayFault)
    → Replays b start last left old new gathered result → Appends new new' gathered → Replays b start last left old new' [] result
replays_written {S} b start last left old new new' gathered result r appended = record {
  outcome = r.outcome;
  is_such = r.is_such;
  wrote = r.wrote ++ gathered;
  appended = Appends-trans old new new' r.wrote gathered r.appended appended;
  answers = rw (append-nil (r.wrote ++ gathered)) r.answers;
}

-- or a prefix of them is
pub replays_written_part : {S : Type 0} → (b : Behavior S) (start last : S) (left old new new' : Option (List ℕ)) (gathered : List ℕ) (result : Result (Unit {0}) ReplayFault)
    → Replays b start last left old new gathered result → AppendsPrefix new new' gathered → (fault : SinkFault)
    → Replays b start last left old new' [] (Err (fault_of_sink fault))
replays_written_part {S} b start last left old new new' gathered result r part fault =
    let whole : r.wrote ++ gathered ≡ (r.wrote ++ part.prefix ++ []) ++ part.rest =
    ap (λ t. r.wrote ++ t) part.whole ∙ sym (append_assoc r.wrote part.prefix part.rest)
    ∙ ap (λ t. t ++ part.rest) (sym (append-nil (r.wrote ++ part.prefix))) in
    record {
      outcome = r.outcome;
      is_such = r.is_such;
      wrote = r.wrote ++ part.prefix;
      appended = Appends-trans old new new' r.wrote part.prefix r.appended part.appended;
      answers = rw (failure_end last (fault_of_sink fault) (sink_failure fault)) (shorter_prefix (replay_end last result) r.outcome (r.wrote ++ gathered)
          (r.wrote ++ part.prefix ++ []) part.rest r.answers whole);
    }

-- it is so of a failing source, where nothing more is written
pub decided_stays : {S : Type 0} → (b : Behavior S) (start : S) (left left' old new new' : Option (List ℕ)) (gathered : List ℕ) → gathered ≡ []
    → WritesDecided b start left left' old new → Appends new new' gathered → WritesDecided b start left left' old new'
decided_stays {S} b start left left' old new new' gathered empty d appended = record {
  took = d.took;
  consumed = d.consumed;
  going_on = d.going_on;
  written = rw (append-nil (decided_outcome b start d.took).answers) at (Appends-trans old new new' (decided_outcome b start d.took).answers []
      d.written (rw empty at appended));
}
