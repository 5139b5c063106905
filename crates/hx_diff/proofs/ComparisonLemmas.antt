-- Laws of two worlds that go through the same events, and of what is counted of their answers.
use Rattle.std.proofs.Common.{◌≡◌, ℕ, Bool, true, false, not, ◌||◌, nat_lt, ◌⊎◌, List, [], ◌∷◌, Option, None, Some, Err, refl, sym, ◌∙◌, ap, subst, inl, inr, arith, if◌then◌else◌}
use mathlib.Core.Bool.{true≢false}
use Rattle.std.specs.FinMap as map
use Rattle.std.specs.Option.{option_map_or}
use Rattle.std.specs.Ordering.{nat_cmp}
use Rattle.std.specs.Str.{bytes_eq}
use Rattle.std.proofs.lemmas.Bool.{lt-ltb}
use Rattle.std.proofs.lemmas.Slice.Eq.{bytes_eq-Decides}
use Rattle.hx_core.specs.Steps.{after_head, after_number, answer_of, next_number, refusal_of, world_after, StepCountsLarge}
use Rattle.hx_core.specs.World.{World}
use Rattle.hx_core.specs.declared.fault.StepFault.{StepFault}
use Rattle.hx_core.specs.declared.fault.StepFault.TheVariants as step
use Rattle.hx_fetch.specs.declared.Conn.{Conn as Connection}
use Rattle.hx_http.specs.Head.{Head, head_of, many, message, none}
use Rattle.hx_outside.specs.Count.{Rose}
use Rattle.hx_outside.specs.Makers.{ExpressionText, MakerState}
use Rattle.hx_record.specs.declared.Event.{Event}
use Rattle.hx_record.specs.declared.Event.TheVariants.{Conn, Req, Close, Cli}
use Rattle.hx_replay.specs.Behavior.{AreAllowed, state_after}
use Rattle.hx_replay.specs.Program.{engine_behavior}
use Rattle.hx_diff.specs.Comparison.{AreAnsweredAlike, Comparison, comparison_after, comparison_behavior}
use Rattle.hx_diff.specs.Tally.{counted_if, some_differ, tally_after}
use Rattle.hx_diff.specs.declared.tally.Tally.{Tally}

-- ---- connections

abbrev pub Connections : Type 0
Connections = map.FinMap nat_cmp Connection

-- what an event makes of the connections, whatever else is known
abbrev connections_after : Connections → Event → Connections
connections_after now_open (Conn id src src_port dst dst_port) =
    let conn : Connection =
    record { id = id; src = src; src_port = src_port; dst = dst; dst_port = dst_port } in
    map.insert now_open id conn
connections_after now_open (Req id bytes) = now_open
connections_after now_open (Close id) = map.remove now_open id
connections_after now_open (Cli session text) = now_open

head_keeps : (world : World) (conn : Connection) (head : Head) → (after_head world conn head).connections ≡ world.connections
head_keeps world conn (message head len) = refl
head_keeps world conn many = refl
head_keeps world conn none = refl

request_keeps : (world : World) (bytes : List ℕ) (found : Option Connection)
    → (option_map_or (λ conn. after_head world conn (head_of bytes)) found (after_number world)).connections ≡ world.connections
request_keeps world bytes None = refl
request_keeps world bytes (Some conn) = head_keeps world conn (head_of bytes)

connections_are : (world : World) (event : Event) → (world_after world event).connections ≡ connections_after world.connections event
connections_are world (Conn id src src_port dst dst_port) = refl
connections_are world (Req id bytes) = request_keeps world bytes (map.get world.connections id)
connections_are world (Close id) = refl
connections_are world (Cli session text) = refl

-- the same connections are open after an event, too
pub alike_after : (old new : World) (event : Event) → old.connections ≡ new.connections
    → (world_after old event).connections ≡ (world_after new event).connections
alike_after old new event same =
    connections_are old event ∙ ap (λ (now_open : Connections). connections_after now_open event) same ∙ sym (connections_are new event)

-- and neither world refuses what the other allows
pub refused_alike : (old new : World) (event : Event) → old.connections ≡ new.connections → refusal_of old event ≡ refusal_of new event
refused_alike old new (Conn id src src_port dst dst_port) same =
    ap (λ (now_open : Connections). if map.contains_key now_open id then Some step.ConnOpen else None) same
refused_alike old new (Req id bytes) same =
    ap (λ (now_open : Connections). if map.contains_key now_open id then None else Some step.UnknownConn) same
refused_alike old new (Close id) same =
    ap (λ (now_open : Connections). if map.contains_key now_open id then None else Some step.UnknownConn) same
refused_alike old new (Cli session text) same = refl

pub allowed_alike : (old new : World) (events : List Event) → old.connections ≡ new.connections → AreAllowed engine_behavior old events → AreAllowed engine_behavior new events
allowed_alike old new [] same allowed = tt
allowed_alike old new (event ∷ events) same allowed = (
  sym (refused_alike old new event same) ∙ allowed.0,
  allowed_alike (world_after old event) (world_after new event) events (alike_after old new event same) allowed.1,
)

-- what may stand where it stands in both may do so in the old one
pub allowed_by_both : (c : Comparison) (events : List Event) → AreAllowed comparison_behavior c events → AreAllowed engine_behavior c.old_world events
allowed_by_both c [] allowed = tt
allowed_by_both c (event ∷ events) allowed = (allowed.0, allowed_by_both (comparison_after c event) events allowed.1)

-- ---- an event

-- what a maker knows after a fault: of the first engine, or of the second one after a step of the first that asked for no
-- text that was too large
pub fault_counts : (A B : Type 0) (fault : StepFault) (P Q : ExpressionText → Type 0) (first mid last : MakerState)
    → (mid.too_large ≡ first.too_large) × (mid.large ≡ first.large) → ((text : ExpressionText) → P text → Q text)
    → StepCountsLarge {T = A} (Err fault) P mid last → StepCountsLarge {T = B} (Err fault) Q first last
fault_counts A B step.UnknownConn P Q first mid last stays also counts = (counts.0 ∙ stays.0, counts.1 ∙ stays.1)
fault_counts A B step.ConnOpen P Q first mid last stays also counts = (counts.0 ∙ stays.0, counts.1 ∙ stays.1)
fault_counts A B step.TooLarge P Q first mid last stays also counts = (
  subst (λ (count : ℕ). Rose count last.too_large) stays.0 counts.0,
  record { text = counts.1.text; is = counts.1.is; asked = also counts.1.text counts.1.asked },
)
fault_counts A B step.NoMemory P Q first mid last stays also counts = (counts.0 ∙ stays.0, counts.1 ∙ stays.1)

-- ---- counts

next_positive : (count : ℕ) → nat_lt 0 (next_number count) ≡ true
next_positive count = lt-ltb 0 (next_number count) (omega arith)

-- a count that isn't zero stays so
counted_stays : (counts : Bool) (count : ℕ) → nat_lt 0 count ≡ true → nat_lt 0 (counted_if counts count) ≡ true
counted_stays true count some = next_positive count
counted_stays false count some = some

or_parts : (a b : Bool) → (a || b) ≡ true → (a ≡ true) ⊎ (b ≡ true)
or_parts true b some = inl refl
or_parts false b some = inr some

or_second : (a b : Bool) → b ≡ true → (a || b) ≡ true
or_second true b some = refl
or_second false b some = some

some_of : (first second : ℕ) → (nat_lt 0 first || nat_lt 0 second) ≡ true → (nat_lt 0 first ≡ true) ⊎ (nat_lt 0 second ≡ true)
some_of first second some = or_parts (nat_lt 0 first) (nat_lt 0 second) some

some_first : (first second : ℕ) → nat_lt 0 first ≡ true → (nat_lt 0 first || nat_lt 0 second) ≡ true
some_first first second some = ap (λ test. test || nat_lt 0 second) some

some_second : (first second : ℕ) → nat_lt 0 second ≡ true → (nat_lt 0 first || nat_lt 0 second) ≡ true
some_second first second some = or_second (nat_lt 0 first) (nat_lt 0 second) some

-- what differed is counted from then on
differ_stays : (tally : Tally) (event : Event) (old new : List ℕ) → some_differ tally ≡ true → some_differ (tally_after tally event old new) ≡ true
differ_stays tally (Conn id src src_port dst dst_port) old new some = some
differ_stays tally (Req id bytes) old new some =
    elim (some_of tally.requests_differ tally.commands_differ some) [
      | inl requests ↦ some_first (counted_if (not (bytes_eq old new)) tally.requests_differ) tally.commands_differ
          (counted_stays (not (bytes_eq old new)) tally.requests_differ requests)
      | inr commands ↦ some_second (counted_if (not (bytes_eq old new)) tally.requests_differ) tally.commands_differ commands
    ]
differ_stays tally (Close id) old new some = some
differ_stays tally (Cli session text) old new some =
    elim (some_of tally.requests_differ tally.commands_differ some) [
      | inl requests ↦ some_first tally.requests_differ (counted_if (not (bytes_eq old new)) tally.commands_differ) requests
      | inr commands ↦ some_second tally.requests_differ (counted_if (not (bytes_eq old new)) tally.commands_differ)
          (counted_stays (not (bytes_eq old new)) tally.commands_differ commands)
    ]

differ_to_end : (now : Comparison) (events : List Event) → some_differ now.report.tally ≡ true → some_differ (state_after comparison_behavior now events).report.tally ≡ true
differ_to_end now [] some = some
differ_to_end now (event ∷ events) some =
    differ_to_end (comparison_after now event) events
    (differ_stays now.report.tally event (answer_of now.old_world event) (answer_of now.new_world event) some)

-- where none is counted, the answers are the same
uncounted_requests : (tally : Tally) (test : Bool) → (nat_lt 0 (counted_if (not test) tally.requests_differ) || nat_lt 0 tally.commands_differ) ≡ false
    → test ≡ true
uncounted_requests tally true uncounted = refl
uncounted_requests tally false uncounted =
    absurd (true≢false (sym (some_first (next_number tally.requests_differ) tally.commands_differ (next_positive tally.requests_differ)) ∙ uncounted))

uncounted_commands : (tally : Tally) (test : Bool) → (nat_lt 0 tally.requests_differ || nat_lt 0 (counted_if (not test) tally.commands_differ)) ≡ false
    → test ≡ true
uncounted_commands tally true uncounted = refl
uncounted_commands tally false uncounted =
    absurd (true≢false (sym (some_second tally.requests_differ (next_number tally.commands_differ) (next_positive tally.commands_differ)) ∙ uncounted))

same_of_uncounted : (now : Comparison) (event : Event) → some_differ (comparison_after now event).report.tally ≡ false
    → answer_of now.old_world event ≡ answer_of now.new_world event
same_of_uncounted now (Conn id src src_port dst dst_port) uncounted = refl
same_of_uncounted now (Req id bytes) uncounted =
    (bytes_eq-Decides (answer_of now.old_world (Req id bytes)) (answer_of now.new_world (Req id bytes))).0
    (uncounted_requests now.report.tally (bytes_eq (answer_of now.old_world (Req id bytes)) (answer_of now.new_world (Req id bytes))) uncounted)
same_of_uncounted now (Close id) uncounted = refl
same_of_uncounted now (Cli session text) uncounted =
    (bytes_eq-Decides (answer_of now.old_world (Cli session text)) (answer_of now.new_world (Cli session text))).0
    (uncounted_commands now.report.tally (bytes_eq (answer_of now.old_world (Cli session text)) (answer_of now.new_world (Cli session text))) uncounted)

by_test : {A : Type 0} (test : Bool) → (test ≡ true → A) → (test ≡ false → A) → A
by_test true at_true at_false = at_true refl
by_test false at_true at_false = at_false refl

-- no difference at the end, none before
none_before : (now : Comparison) (events : List Event) → some_differ (state_after comparison_behavior now events).report.tally ≡ false → some_differ now.report.tally ≡ false
none_before now events none_at_end =
    by_test (some_differ now.report.tally) (λ some. absurd (true≢false (sym (differ_to_end now events some) ∙ none_at_end))) (λ is. is)

-- where nothing is counted, each event has the same answer
pub alike_of_none : (now : Comparison) (events : List Event) → some_differ (state_after comparison_behavior now events).report.tally ≡ false
    → AreAnsweredAlike now.old_world now.new_world events
alike_of_none now [] none_at_end = tt
alike_of_none now (event ∷ events) none_at_end =
    let after = comparison_after now event in (
      same_of_uncounted now event (none_before after events none_at_end),
      alike_of_none after events none_at_end,
    )

same_uncounted : (tally : Tally) (event : Event) (old new : List ℕ) → old ≡ new → some_differ (tally_after tally event old new) ≡ some_differ tally
same_uncounted tally (Conn id src src_port dst dst_port) old new same = refl
same_uncounted tally (Req id bytes) old new same =
    ap (λ test. nat_lt 0 (counted_if (not test) tally.requests_differ) || nat_lt 0 tally.commands_differ) ((bytes_eq-Decides old new).1 same)
same_uncounted tally (Close id) old new same = refl
same_uncounted tally (Cli session text) old new same =
    ap (λ test. nat_lt 0 tally.requests_differ || nat_lt 0 (counted_if (not test) tally.commands_differ)) ((bytes_eq-Decides old new).1 same)

-- and the other way round
pub none_of_alike : (now : Comparison) (events : List Event) → AreAnsweredAlike now.old_world now.new_world events
    → some_differ (state_after comparison_behavior now events).report.tally ≡ some_differ now.report.tally
none_of_alike now [] alike = refl
none_of_alike now (event ∷ events) alike =
    none_of_alike (comparison_after now event) events alike.1
    ∙ same_uncounted now.report.tally event (answer_of now.old_world event) (answer_of now.new_world event) alike.0
