-- What the bytes that a reader has decide: lines that say nothing are passed, and the item after
-- them is the answer.
use Rattle.std.proofs.Common.{◌≡◌, ℕ, ◌+◌, ◌-◌, ◌<◌, ◌≤◌, Bool, true, false, List, [], ◌++◌, length, take, drop, Ok, Err, refl, sym, ap, subst, ◌∙◌, arith, lt-ltb, inl, inr, length-take-le, length-drop, length-append, append_assoc, add-zero, take-append-drop}
use Rattle.std.proofs.lemmas.Bool.{cases_lt, le-ltb}
use Rattle.hx_record.specs.declared.events.Event.{Event}
use Rattle.hx_record.specs.declared.events.Next.TheVariants as next
use Rattle.hx_record.specs.declared.fault.RecordFault.TheVariants as faults
use Rattle.hx_record.specs.declared.refusal.RecordRefusal.{RecordRefusal}
use Rattle.hx_record.specs.Beginning.{Ends, Beyond, Open, Beginning, Undecided, TooLong, Finish, Fault, Skip, Found}
use Rattle.hx_record.specs.RefusalCode.{code_of}
use Rattle.hx_record.specs.Record.{Items, Unknown, items_of, continuation_of}
use Rattle.hx_record.specs.State.{State, MayFollow, items_after, decided_items_now, remaining_work}
use Rattle.hx_record.specs.Reading.{Decides, HasEvent}
use Rattle.hx_record.specs.Parts.{IsFound, beginning_now, state_past}
use Rattle.hx_record.proofs.PieceLemmas.{Takes}
use Rattle.hx_record.proofs.StateLemmas.{now_takes, now_decided, skip_passes, found_passes, undecided_now, skip_after, found_after, finish_after, fault_after, long_after}

-- lines that say nothing were passed, and the items are the same, whatever follows
pub record PassesLines (before s : State) : Type 0 where
  pub passed : List ℕ
  pub bytes : before.pending ≡ passed ++ s.pending
  pub offset : s.at ≡ before.at + length passed
  pub limit : s.limit ≡ before.limit
  pub ended : s.ended ≡ before.ended
  pub same : (ends : Bool) (more : List ℕ) → MayFollow s ends more → items_after before ends more ≡ items_after s ends more

pub lines_start : (s : State) → PassesLines s s
lines_start s = record { passed = []; bytes = refl; offset = sym (add-zero s.at); limit = refl; ended = refl; same = λ ends more may. refl }

-- bytes that are passed next
passes : (before s : State) (used : ℕ) → (p : PassesLines before s) → used ≤ length s.pending
    → (before.pending ≡ (p.passed ++ take used s.pending) ++ drop used s.pending) × (s.at + used ≡ before.at + length (p.passed ++ take used s.pending))
passes before s used p fits = (
  p.bytes ∙ ap (λ bytes. p.passed ++ bytes) (sym (take-append-drop used s.pending)) ∙ sym (append_assoc p.passed (take used s.pending) (drop used s.pending)),
  omega (arith, p.offset, length-append p.passed (take used s.pending), length-take-le used s.pending fits),
)

pub lines_skip : (before s : State) (used : ℕ) → PassesLines before s → beginning_now s ≡ Skip used → PassesLines before (state_past s used)
lines_skip before s used p e =
    let moved = passes before s used p (skip_passes s used e).1 in
    record {
      passed = p.passed ++ take used s.pending;
      bytes = moved.0;
      offset = moved.1;
      limit = p.limit;
      ended = p.ended;
      same = λ ends more may. p.same ends more may ∙ skip_after s ends more used may e;
    }

-- ---- the answers

pub decides_event : (before s : State) (used : ℕ) (event : Event) → PassesLines before s → beginning_now s ≡ Found used event
    → Decides before (state_past s used) (Ok (next.Event (record { offset = s.at; event = event })))
decides_event before s used event p e =
    let moved = passes before s used p (found_passes s used event e).1 in
    record {
      passed = p.passed ++ take used s.pending;
      bytes = moved.0;
      offset = moved.1;
      limit = p.limit;
      ended = p.ended;
      answers = λ ends more may. p.same ends more may ∙ found_after s ends more used event may e;
    }

pub decides_end : (before s : State) → PassesLines before s → beginning_now s ≡ Finish → Decides before s (Ok next.End)
decides_end before s p e = record {
  passed = p.passed;
  bytes = p.bytes;
  offset = p.offset;
  limit = p.limit;
  ended = p.ended;
  answers = λ ends more may. let done = finish_after s ends more may e in (p.same ends more may ∙ done, done);
}

pub decides_undecided : (before s : State) → PassesLines before s → Decides before s (Ok next.Undecided)
decides_undecided before s p = record {
  passed = p.passed;
  bytes = p.bytes;
  offset = p.offset;
  limit = p.limit;
  ended = p.ended;
  answers = λ ends more may. sym (p.same ends more may);
}

pub decides_no_memory : (before s : State) → PassesLines before s → Decides before s (Err faults.NoMemory)
decides_no_memory before s p = record {
  passed = p.passed;
  bytes = p.bytes;
  offset = p.offset;
  limit = p.limit;
  ended = p.ended;
  answers = λ ends more may. sym (p.same ends more may);
}

pub decides_fault : (before s : State) (skip : ℕ) (refusal : RecordRefusal) → PassesLines before s → beginning_now s ≡ Fault skip refusal
    → Decides before s (Err (faults.Bad (s.at + skip) (code_of refusal)))
decides_fault before s skip refusal p e = record {
  passed = p.passed;
  bytes = p.bytes;
  offset = p.offset;
  limit = p.limit;
  ended = p.ended;
  answers = λ ends more may. let bad = fault_after s ends more skip refusal may e in (p.same ends more may ∙ bad, bad);
}

pub decides_long : (before s : State) → PassesLines before s → beginning_now s ≡ TooLong → Decides before s (Err (faults.Bad s.limit 4))
decides_long before s p e = record {
  passed = p.passed;
  bytes = p.bytes;
  offset = p.offset;
  limit = p.limit;
  ended = p.ended;
  answers = λ ends more may. let bad = long_after s ends more may e in (p.same ends more may ∙ bad, bad);
}

-- ---- what else is known

has_event : (limit : ℕ) (p : Beginning) (at : ℕ) (rest : ℕ → Items) → IsFound p → HasEvent (items_of limit p at rest)
has_event limit Undecided at rest found = found
has_event limit TooLong at rest found = found
has_event limit Finish at rest found = found
has_event limit (Fault skip refusal) at rest found = found
has_event limit (Skip used) at rest found = absurd found
has_event limit (Found used event) at rest found = tt

pub found_event : (s : State) → IsFound (beginning_now s) → HasEvent (decided_items_now s)
found_event s found = rw (now_decided s) (has_event s.limit (beginning_now s) s.at _ found)

-- undecided bytes have no end after them, and are within the limit
pub undecided_now_open : (s : State) → beginning_now s ≡ Undecided → (s.ended ≡ false) × (length s.pending ≤ s.limit - s.at)
undecided_now_open s e = at_open s.ended (subst (Takes (continuation_of s.ended (s.limit - s.at) s.pending) (length (take (s.limit - s.at) s.pending))) e (now_takes s)) where
  at_open : (ended : Bool) → continuation_of ended (s.limit - s.at) s.pending ≡ Open → (ended ≡ false) × (length s.pending ≤ s.limit - s.at)
  at_open true h = elim (cases_lt (s.limit - s.at) (length s.pending)) [
    | inl beyond ↦ let other : Beyond ≡ Open = rw (lt-ltb (s.limit - s.at) (length s.pending) beyond) at h in cc
    | inr all ↦ let other : Ends ≡ Open = rw (le-ltb (s.limit - s.at) (length s.pending) all) at h in cc
  ]
  at_open false h = elim (cases_lt (s.limit - s.at) (length s.pending)) [
    | inl beyond ↦ let other : Beyond ≡ Open = rw (lt-ltb (s.limit - s.at) (length s.pending) beyond) at h in cc
    | inr all ↦ (refl, all)
  ]

pub undecided_known : (s : State) → beginning_now s ≡ Undecided → (s.ended ≡ false) × (decided_items_now s ≡ Unknown)
undecided_known s e = ((undecided_now_open s e).0, undecided_now s e)

-- the end is found only at the record's end
pub finish_ended : (s : State) → beginning_now s ≡ Finish → s.ended ≡ true
finish_ended s e = at_end s.ended (subst (Takes (continuation_of s.ended (s.limit - s.at) s.pending) (length (take (s.limit - s.at) s.pending))) e (now_takes s)) where
  at_end : (ended : Bool) → continuation_of ended (s.limit - s.at) s.pending ≡ Ends → ended ≡ true
  at_end true h = refl
  at_end false h = elim (cases_lt (s.limit - s.at) (length s.pending)) [
    | inl beyond ↦ let other : Beyond ≡ Ends = rw (lt-ltb (s.limit - s.at) (length s.pending) beyond) at h in cc
    | inr all ↦ let other : Open ≡ Ends = rw (le-ltb (s.limit - s.at) (length s.pending) all) at h in cc
  ]

-- ---- how much is left to do

pub work_skip : (s : State) (used : ℕ) → s.at ≤ s.limit → beginning_now s ≡ Skip used → remaining_work (state_past s used) < remaining_work s
work_skip s used within e =
    let h = skip_passes s used e in
    let some = h.0 in
    let fits = h.1 in
    let limit = h.2 within in
    omega (arith, length-drop used s.pending)

pub work_found : (s : State) (used : ℕ) (event : Event) → s.at ≤ s.limit → beginning_now s ≡ Found used event → remaining_work (state_past s used) < remaining_work s
work_found s used event within e =
    let h = found_passes s used event e in
    let some = h.0 in
    let fits = h.1 in
    let limit = h.2 within in
    omega (arith, length-drop used s.pending)
