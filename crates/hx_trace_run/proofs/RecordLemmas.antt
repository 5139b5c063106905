-- What is found of a record whose answers are set beside a trace.
use Rattle.std.proofs.Common.{◌≡◌, ℕ, List, [], ◌∷◌, ◌++◌, Option, None, Some, IfErr, OnOk, Result, Ok, Err, option_map, refl, sym, ◌∙◌, ap, subst, append_assoc}
use Rattle.std.specs.Io.KnownBytes.{Appends}
use Rattle.hx_outside.specs.Makers.{ExpressionText}
use Rattle.hx_core.specs.Steps.{EventAsksFor}
use Rattle.hx_core.specs.World.{World}
use Rattle.hx_record.specs.Record.{decided_items, record_items}
use Rattle.hx_replay.specs.Behavior.{Behavior}
use Rattle.hx_replay.specs.Gathering.{Replays, replay_end}
use Rattle.hx_replay.specs.Outcome.{Outcome, ReplayEnd, RecordEnd, RefusedAt}
use Rattle.hx_replay.specs.Program.{Program, initial_world}
use Rattle.hx_replay.specs.Records.{record_limit}
use Rattle.hx_replay.specs.Replay.{ReplayAsksLast, WritesDecided, decided_outcome, record_outcome}
use Rattle.hx_replay.specs.declared.replay_fault.ReplayFault.{ReplayFault}
use Rattle.hx_replay.specs.declared.replay_fault.ReplayFault.TheVariants as replay
use Rattle.hx_replay.proofs.OutcomeLemmas.{prefix_of}
use Rattle.hx_run.specs.Outcome.{run_end}
use Rattle.hx_run.specs.Run.{behavior_of}
use Rattle.hx_run.specs.RunFault.{IsReplayFault}
use Rattle.hx_run.specs.declared.command.Detail.TheVariants.{Reasons}
use Rattle.hx_run.specs.declared.run_fault.RunFault.TheVariants as run
use Rattle.hx_trace_run.specs.Checking.{TakesUnrefused}
use Rattle.hx_trace_run.specs.CheckView.{FindsBeside, found_result}
use Rattle.hx_trace_run.specs.AgreementView.{CheckAsksFor, CheckState, check_behavior, finding_at, initial_check}
use Rattle.hx_trace_run.specs.declared.agreement.Finding.{Finding}
use Rattle.hx_trace_run.proofs.CheckReplayLemmas.{beside, check_end, checked_asks, checked_replay}
use Rattle.hx_trace_run.proofs.AgreementLemmas.{finding_is}

-- what answers the events of a traced run
abbrev tracing : Behavior World
tracing = behavior_of Reasons

no_ending : (world : World) → tracing.ending world ≡ []
no_ending world = refl

nil_of_append : (prefix rest : List ℕ) → prefix ++ rest ≡ [] → prefix ≡ []
nil_of_append [] rest is = refl
nil_of_append (b ∷ prefix) rest is = cc

-- ---- nothing is written

-- the outcome of a record beside a trace
beside_record : (program : Program) (trace bytes : List ℕ) (outcome : Outcome (ReplayEnd (CheckState World)))
    → outcome ≡ record_outcome (check_behavior tracing) (initial_check trace (initial_world program)) bytes
    → outcome ≡ record {
      answers = [];
      end = option_map (λ end. check_end trace (record_outcome tracing (initial_world program) bytes).answers end)
          (record_outcome tracing (initial_world program) bytes).end;
    }
beside_record program trace bytes outcome is = is ∙ checked_replay tracing no_ending trace [] (initial_world program) (record_items bytes record_limit)

pub nothing_written : (program : Program) (trace : List ℕ) (last : CheckState World) (left old new : Option (List ℕ)) (replayed : Result (Unit {0}) ReplayFault)
    → Replays (check_behavior tracing) (initial_check trace (initial_world program)) last left old new [] replayed → Appends old new []
nothing_written program trace last left old new replayed r =
    let here = beside_record program trace r.is_such.bytes r.outcome r.is_such.is in
    let (rest, whole) = prefix_of (replay_end last replayed) r.outcome (r.wrote ++ []) r.answers in
    let none : r.wrote ++ ([] ++ rest) ≡ [] =
    sym (append_assoc r.wrote [] rest) ∙ sym whole ∙ ap (λ (o : Outcome (ReplayEnd (CheckState World))). o.answers) here in
    subst (λ (text : List ℕ). Appends old new text) (nil_of_append r.wrote rest none) r.appended

-- ---- the end

-- which end of a replay it is: the record's, or a refusal
abbrev IsRecordEnd : {S : Type 0} → S → Option (ReplayEnd S) → Type 0
IsRecordEnd last None = ⊥
IsRecordEnd last (Some (RecordEnd state)) = state ≡ last
IsRecordEnd last (Some (RefusedAt offset code)) = ⊥

is_record_end : {S : Type 0} → (last : S) (end : Option (ReplayEnd S)) → end ≡ Some (RecordEnd last) → IsRecordEnd last end
is_record_end {S} last end is = rw is refl

abbrev IsRefusedAt : {S : Type 0} → ℕ → ℕ → Option (ReplayEnd S) → Type 0
IsRefusedAt offset code None = ⊥
IsRefusedAt offset code (Some (RecordEnd state)) = ⊥
IsRefusedAt offset code (Some (RefusedAt o c)) = (o ≡ offset) × (c ≡ code)

is_refused_at : {S : Type 0} → (offset code : ℕ) (end : Option (ReplayEnd S)) → end ≡ Some (RefusedAt offset code) → IsRefusedAt offset code end
is_refused_at {S} offset code end is = rw is (refl, refl)

record Completed (trace text : List ℕ) (last : CheckState World) (end : Option (ReplayEnd World)) : Type 0 where
  world : World
  is : end ≡ Some (RecordEnd world)
  last_is : beside trace text world ≡ last

completed : (trace text : List ℕ) (last : CheckState World) (end : Option (ReplayEnd World))
    → option_map (λ e. check_end trace text e) end ≡ Some (RecordEnd last) → Completed trace text last end
completed trace text last None is = absurd (is_record_end last None is)
completed trace text last (Some (RecordEnd world)) is =
    record { world = world; is = refl; last_is = is_record_end last (Some (RecordEnd (beside trace text world))) is }
completed trace text last (Some (RefusedAt offset code)) is = absurd (is_record_end last (Some (RefusedAt offset code)) is)

refused : (trace text : List ℕ) (offset code : ℕ) (end : Option (ReplayEnd World))
    → option_map (λ e. check_end trace text e) end ≡ Some (RefusedAt offset code) → end ≡ Some (RefusedAt offset code)
refused trace text offset code None is = absurd (is_refused_at {S = CheckState World} offset code None is)
refused trace text offset code (Some (RecordEnd world)) is =
    absurd (is_refused_at {S = CheckState World} offset code (Some (RecordEnd (beside trace text world))) is)
refused trace text offset code (Some (RefusedAt o c)) is =
    let (same, same') = is_refused_at {S = CheckState World} offset code (Some (RefusedAt o c)) is in rw (same, same') refl

undecided : (trace text : List ℕ) (end : Option (ReplayEnd World)) → option_map (λ e. check_end trace text e) end ≡ None → end ≡ None
undecided trace text None is = refl
undecided trace text (Some end) is = cc

-- what is found of a record that is replayed to this
pub found : (program : Program) (trace : List ℕ) (last : CheckState World) (left old new : Option (List ℕ)) (replayed : Result (Unit {0}) ReplayFault)
    → Replays (check_behavior tracing) (initial_check trace (initial_world program)) last left old new [] replayed
    → FindsBeside program trace left (found_result (finding_at last.agreement) replayed)
found program trace last left old new (Ok done) r =
    let here = beside_record program trace r.is_such.bytes r.outcome r.is_such.is in
    let text = (record_outcome tracing (initial_world program) r.is_such.bytes).answers in
    let c = completed trace text last (record_outcome tracing (initial_world program) r.is_such.bytes).end
    (sym (ap (λ (o : Outcome (ReplayEnd (CheckState World))). o.end) here) ∙ r.answers.0) in
    record {
      bytes = r.is_such.bytes;
      of_source = r.is_such.of_source;
      found = (
        ap (λ end. option_map run_end end) c.is,
        ap (λ (check : CheckState World). finding_at check.agreement) (sym c.last_is) ∙ finding_is trace text,
      );
    }
found program trace last left old new (Err (replay.RecordRefused offset code)) r =
    let here = beside_record program trace r.is_such.bytes r.outcome r.is_such.is in
    let text = (record_outcome tracing (initial_world program) r.is_such.bytes).answers in
    record {
      bytes = r.is_such.bytes;
      of_source = r.is_such.of_source;
      found = ap (λ end. option_map run_end end)
          (refused trace text offset code (record_outcome tracing (initial_world program) r.is_such.bytes).end
          (sym (ap (λ (o : Outcome (ReplayEnd (CheckState World))). o.end) here) ∙ r.answers.0));
    }
found program trace last left old new (Err replay.Source) r = record { bytes = r.is_such.bytes; of_source = r.is_such.of_source; found = tt }
found program trace last left old new (Err replay.Sink) r = record { bytes = r.is_such.bytes; of_source = r.is_such.of_source; found = tt }
found program trace last left old new (Err replay.TooLarge) r = record { bytes = r.is_such.bytes; of_source = r.is_such.of_source; found = tt }
found program trace last left old new (Err replay.NoMemory) r = record { bytes = r.is_such.bytes; of_source = r.is_such.of_source; found = tt }

-- ---- what ends a replay early

-- the source failed
pub unrefused : (program : Program) (trace : List ℕ) (left left' old new : Option (List ℕ))
    → WritesDecided (check_behavior tracing) (initial_check trace (initial_world program)) left left' old new → TakesUnrefused program left left'
unrefused program trace left left' old new w = record {
  took = w.took;
  consumed = w.consumed;
  going_on = undecided trace (decided_outcome tracing (initial_world program) w.took).answers (decided_outcome tracing (initial_world program) w.took).end
      (sym (ap (λ (o : Outcome (ReplayEnd (CheckState World))). o.end) (checked_replay tracing no_ending trace [] (initial_world program) (decided_items w.took record_limit))) ∙ w.going_on);
}

-- an expression was too large
pub asks_last : (program : Program) (trace : List ℕ) (left : Option (List ℕ)) (large : Option ExpressionText)
    → ReplayAsksLast (check_behavior tracing) (CheckAsksFor EventAsksFor) (initial_check trace (initial_world program)) left large
    → ReplayAsksLast tracing EventAsksFor (initial_world program) left large
asks_last program trace left None a = record { bytes = a.bytes; of_source = a.of_source; asks = absurd a.asks }
asks_last program trace left (Some text) a = record {
  bytes = a.bytes;
  of_source = a.of_source;
  asks = checked_asks tracing EventAsksFor (initial_check trace (initial_world program)) (record_items a.bytes record_limit) text a.asks;
}

-- ---- faults

-- which fault of the replay it was
pub source_of : (finding : Finding) (replayed : Result (Unit {0}) ReplayFault) → found_result finding replayed ≡ Err run.Source → replayed ≡ Err replay.Source
source_of finding (Ok done) is = cc
source_of finding (Err (replay.RecordRefused offset code)) is = cc
source_of finding (Err replay.Source) is = refl
source_of finding (Err replay.Sink) is = cc
source_of finding (Err replay.TooLarge) is = cc
source_of finding (Err replay.NoMemory) is = cc

pub sink_of : (finding : Finding) (replayed : Result (Unit {0}) ReplayFault) → found_result finding replayed ≡ Err run.Sink → replayed ≡ Err replay.Sink
sink_of finding (Ok done) is = cc
sink_of finding (Err (replay.RecordRefused offset code)) is = cc
sink_of finding (Err replay.Source) is = cc
sink_of finding (Err replay.Sink) is = refl
sink_of finding (Err replay.TooLarge) is = cc
sink_of finding (Err replay.NoMemory) is = cc

pub too_large_of : (finding : Finding) (replayed : Result (Unit {0}) ReplayFault) → found_result finding replayed ≡ Err run.TooLarge → replayed ≡ Err replay.TooLarge
too_large_of finding (Ok done) is = cc
too_large_of finding (Err (replay.RecordRefused offset code)) is = cc
too_large_of finding (Err replay.Source) is = cc
too_large_of finding (Err replay.Sink) is = cc
too_large_of finding (Err replay.TooLarge) is = refl
too_large_of finding (Err replay.NoMemory) is = cc

-- it is none of a configuration or a file
pub replay_kind : (finding : Finding) (replayed : Result (Unit {0}) ReplayFault) → IfErr (found_result finding replayed) IsReplayFault
replay_kind finding (Ok done) = tt
replay_kind finding (Err (replay.RecordRefused offset code)) = tt
replay_kind finding (Err replay.Source) = tt
replay_kind finding (Err replay.Sink) = tt
replay_kind finding (Err replay.TooLarge) = tt
replay_kind finding (Err replay.NoMemory) = tt

-- what holds at the record's end of a replay holds at that of a check
pub at_end_of : (P : Type 0) (finding : Finding) (replayed : Result (Unit {0}) ReplayFault) → OnOk replayed P → OnOk (found_result finding replayed) P
at_end_of P finding (Ok done) there = there
at_end_of P finding (Err fault) there = tt
