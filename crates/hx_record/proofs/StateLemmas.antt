-- What the pending bytes of a reader decide, and what a read makes of that.
use Rattle.std.proofs.Common.{◌≡◌, ◌≢◌, ℕ, ◌+◌, ◌-◌, ◌<◌, ◌≤◌, Bool, true, false, List, [], ◌++◌, length, take, drop, refl, sym, ap, subst, ◌∙◌, arith, lt-ltb, inl, inr, length-take, length-append, append-nil}
use Rattle.std.proofs.lemmas.Bool.{cases_lt, le-ltb}
use Rattle.std.proofs.lemmas.List.{take-append-le, drop-append-le}
use Rattle.std.proofs.Math.Seq.{take-append-add}
use Rattle.hx_record.specs.declared.events.Event.{Event}
use Rattle.hx_record.specs.declared.refusal.RecordRefusal.{RecordRefusal}
use Rattle.hx_record.specs.Beginning.{Open, Undecided, TooLong, Finish, Fault, Skip, Found, beginning_of}
use Rattle.hx_record.specs.RefusalCode.{code_of}
use Rattle.hx_record.specs.Record.{Unknown, Done, Bad, Then, items_of, continuation_of, items_from}
use Rattle.hx_record.specs.State.{State, MayFollow, items_after, decided_items_now}
use Rattle.hx_record.proofs.PieceLemmas.{Takes, takes, piece_decided}
use Rattle.hx_record.proofs.WindowLemmas.{take_all}
use Rattle.hx_record.proofs.ItemLemmas.{rest_step}
use Rattle.hx_record.specs.Parts.{beginning_now, state_past}

-- what bytes decide stays so, under a limit and at the record's end too
pub pending_decides : (ended ends : Bool) (room : ℕ) (pending more : List ℕ) → (ended ≡ true → (more ≡ []) × (ends ≡ true)) → beginning_of (continuation_of ended room pending) (take room pending) ≢ Undecided → beginning_of (continuation_of ends room (pending ++ more)) (take room (pending ++ more)) ≡ beginning_of (continuation_of ended room pending) (take room pending)
pending_decides true ends room pending more may known = rw ((may refl).0, (may refl).1, append-nil) refl
pending_decides false ends room pending more may known =
    let size = length-append pending more in
    elim (cases_lt room (length pending)) [
      | inl beyond ↦ rw (lt-ltb room (length pending) beyond, lt-ltb room (length (pending ++ more)) (omega arith), take-append-le room pending more (omega arith)) refl
      | inr all ↦
          let now : beginning_of (continuation_of false room pending) (take room pending) ≡ beginning_of Open pending = rw (le-ltb room (length pending) all, take_all room pending all) refl in
          let split : length pending + (room - length pending) ≡ room = omega arith in
          let longer : take room (pending ++ more) ≡ pending ++ take (room - length pending) more =
          ap (λ n. take n (pending ++ more)) (sym split) ∙ take-append-add pending more (room - length pending) in
          rw longer (piece_decided (continuation_of ends room (pending ++ more)) pending (take (room - length pending) more) (λ e. known (now ∙ e)) ∙ sym now)
    ]

-- the items that are left, by what its pending bytes begin with
now_step : (s : State) (ends : Bool) (more : List ℕ) → MayFollow s ends more → beginning_now s ≢ Undecided → items_after s ends more ≡ items_of s.limit (beginning_now s) s.at (λ used. items_from ends (s.at + used) (drop used (s.pending ++ more)) s.limit)
now_step s ends more may known =
    rest_step ends s.at (s.pending ++ more) s.limit ∙ ap (λ p. items_of s.limit p s.at (λ used. items_from ends (s.at + used) (drop used (s.pending ++ more)) s.limit)) (pending_decides s.ended ends (s.limit - s.at) s.pending more may known)

-- what a piece takes lies within the pending bytes and the limit
pub now_takes : (s : State) → Takes (continuation_of s.ended (s.limit - s.at) s.pending) (length (take (s.limit - s.at) s.pending)) (beginning_now s)
now_takes s = takes (continuation_of s.ended (s.limit - s.at) s.pending) (take (s.limit - s.at) s.pending)

-- bytes that are passed
abbrev pub Passes : State → ℕ → Type 0
Passes s used = (0 < used) × (used ≤ length s.pending) × (s.at ≤ s.limit → s.at + used ≤ s.limit)

within : (s : State) (used : ℕ) → (0 < used) × (used ≤ length (take (s.limit - s.at) s.pending)) → Passes s used
within s used h =
    let size = length-take (s.limit - s.at) s.pending in
    let some = h.0 in
    let fits = h.1 in
    (some, omega arith, λ inside. omega arith)

pub skip_passes : (s : State) (used : ℕ) → beginning_now s ≡ Skip used → Passes s used
skip_passes s used e = within s used (subst (Takes _ _) e (now_takes s))

pub found_passes : (s : State) (used : ℕ) (event : Event) → beginning_now s ≡ Found used event → Passes s used
found_passes s used event e = within s used (subst (Takes _ _) e (now_takes s))

pub fault_within : (s : State) (skip : ℕ) (refusal : RecordRefusal) → beginning_now s ≡ Fault skip refusal → s.at ≤ s.limit → s.at + skip ≤ s.limit
fault_within s skip refusal e inside =
    let size = length-take (s.limit - s.at) s.pending in
    let fits : skip ≤ length (take (s.limit - s.at) s.pending) = subst (Takes _ _) e (now_takes s) in
    omega arith

-- ---- what a call answers, by the piece that it comes to

-- the items that the pending bytes decide
pub now_decided : (s : State) → decided_items_now s ≡ items_of s.limit (beginning_now s) s.at (λ used. items_from s.ended (s.at + used) (drop used s.pending) s.limit)
now_decided s =
    ap (λ bytes. items_from s.ended s.at bytes s.limit) (append-nil s.pending) ∙ rest_step s.ended s.at s.pending s.limit

pub undecided_now : (s : State) → beginning_now s ≡ Undecided → decided_items_now s ≡ Unknown
undecided_now s e = now_decided s ∙ rw e refl

pub skip_now : (s : State) (used : ℕ) → beginning_now s ≡ Skip used → decided_items_now s ≡ decided_items_now (state_past s used)
skip_now s used e = now_decided s ∙ rw (e, append-nil) refl

pub found_now : (s : State) (used : ℕ) (event : Event) → beginning_now s ≡ Found used event → decided_items_now s ≡ Then (record { offset = s.at; event = event }) (decided_items_now (state_past s used))
found_now s used event e = now_decided s ∙ rw (e, append-nil) refl

pub finish_now : (s : State) → beginning_now s ≡ Finish → decided_items_now s ≡ Done
finish_now s e = now_decided s ∙ rw e refl

pub fault_now : (s : State) (skip : ℕ) (refusal : RecordRefusal) → beginning_now s ≡ Fault skip refusal → decided_items_now s ≡ Bad (s.at + skip) (code_of refusal)
fault_now s skip refusal e = now_decided s ∙ rw e refl

pub long_now : (s : State) → beginning_now s ≡ TooLong → decided_items_now s ≡ Bad s.limit 4
long_now s e = now_decided s ∙ rw e refl

-- the items that are left, whatever follows
pub skip_after : (s : State) (ends : Bool) (more : List ℕ) (used : ℕ) → MayFollow s ends more → beginning_now s ≡ Skip used → items_after s ends more ≡ items_after (state_past s used) ends more
skip_after s ends more used may e =
    let fits = (skip_passes s used e).1 in
    now_step s ends more may (λ none. let no_skip : Skip used ≡ Undecided = sym e ∙ none in cc) ∙ rw (e, drop-append-le used s.pending more fits) refl

pub found_after : (s : State) (ends : Bool) (more : List ℕ) (used : ℕ) (event : Event) → MayFollow s ends more → beginning_now s ≡ Found used event → items_after s ends more ≡ Then (record { offset = s.at; event = event }) (items_after (state_past s used) ends more)
found_after s ends more used event may e =
    let fits = (found_passes s used event e).1 in
    now_step s ends more may (λ none. let no_event : Found used event ≡ Undecided = sym e ∙ none in cc) ∙ rw (e, drop-append-le used s.pending more fits) refl

pub finish_after : (s : State) (ends : Bool) (more : List ℕ) → MayFollow s ends more → beginning_now s ≡ Finish → items_after s ends more ≡ Done
finish_after s ends more may e =
    now_step s ends more may (λ none. let no_end : Finish ≡ Undecided = sym e ∙ none in cc) ∙ rw e refl

pub fault_after : (s : State) (ends : Bool) (more : List ℕ) (skip : ℕ) (refusal : RecordRefusal) → MayFollow s ends more → beginning_now s ≡ Fault skip refusal → items_after s ends more ≡ Bad (s.at + skip) (code_of refusal)
fault_after s ends more skip refusal may e =
    now_step s ends more may (λ none. let no_fault : Fault skip refusal ≡ Undecided = sym e ∙ none in cc) ∙ rw e refl

pub long_after : (s : State) (ends : Bool) (more : List ℕ) → MayFollow s ends more → beginning_now s ≡ TooLong → items_after s ends more ≡ Bad s.limit 4
long_after s ends more may e =
    now_step s ends more may (λ none. let no_length : TooLong ≡ Undecided = sym e ∙ none in cc) ∙ rw e refl
