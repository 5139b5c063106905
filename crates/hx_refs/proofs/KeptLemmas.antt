-- What the code keeps of references stays as it is kept, and is shown as it is changed.
use Rattle.std.proofs.Common.{◌≡◌, ◌≢◌, ℕ, zero, suc, ◌<◌, ◌==◌, Bool, true, false, List, [], ◌∷◌, ◌++◌, length, All, refl, ap, sym, ◌∙◌, arith, inl, inr, length-append, length-set}
use Rattle.std.specs.Prelude.{Option, None, Some, Result, Ok, Err, OnOk, OnErr, IfSome, is_some, option_map, slice_get, slice_index_or, slice_set, if◌then◌else◌}
use Rattle.std.specs.Option.{option_map_or}
use Rattle.std.proofs.lemmas.Bool.{cases_Bool, cases_eq, eqb-true, eqb-false, cases_lt}
use Rattle.std.proofs.lemmas.List.{map-append, map-set}
use Rattle.std.proofs.Math.Seq.{map-set_same}
use Rattle.std.proofs.lemmas.Option.{same_Some, slice_get-map, slice_get_past, slice_get_read, get_or_from_slice_get}
use Rattle.hx_text.specs.declared.kinds.By.{By}
use Rattle.hx_text.specs.declared.kinds.By.TheVariants as by
use Rattle.hx_sample.specs.declared.sample.Value.{Value}
use Rattle.hx_sample.specs.Find.{found_entry, Entry}
use Rattle.hx_sample.specs.Tables.{found_at, TableHead}
use Rattle.hx_refs.specs.Changes.{fault_at}
use Rattle.hx_refs.specs.Costs.{find_steps}
use Rattle.hx_versions.specs.Costs.{search_steps}
use Rattle.hx_refs.specs.Kept.{kept_fault, kept_uses, shown_references, with_kept, AreKept, Kept, KeptState, TakePatterns}
use Rattle.hx_refs.specs.References.{changed_at, searched_lists, version_entries, with_reference, AreEmpty, Reference, References}
use Rattle.hx_refs.specs.declared.fault.RefFault.{RefFault}
use Rattle.hx_refs.specs.declared.limits.Limits.{Limits}
use Rattle.hx_refs.specs.Uses.{after_use, use_with, uses_of, Use}
use Rattle.hx_refs.proofs.ListLemmas.{get_last, get_more, get_past, get_set_other, get_set_same}
use Rattle.hx_refs.proofs.NameLemmas.{own_names_more, own_names_stay, KeepsNames}
use Rattle.hx_refs.proofs.UseLemmas.{known_use, uses_of_more, uses_of_others}

-- ---- uses

pub more_methods : (uses : List Use) (u : Use) → u.by ≢ by.Found → u.by ≢ by.Bool → TakePatterns uses
    → TakePatterns (uses ++ u ∷ [])
more_methods [] u found bool methods = (found, bool, tt)
more_methods (v ∷ uses) u found bool methods =
    (methods.0, methods.1, more_methods uses u found bool methods.2)

-- ---- the reference at a position

-- there is one
pub found_within : {A : Type 0} → (kept : List A) (r : ℕ) → r < length kept → (k : A) × (slice_get kept r ≡ Some k)
found_within [] r within = absurd (omega (arith, within))
found_within (k ∷ kept) zero within = (k, refl)
found_within (k ∷ kept) (suc r) within = found_within kept r (omega (arith, within))

-- a change of a reference is shown as one
pub changed_shown : (kept : List Kept) (r : ℕ) (change : Reference → Reference)
    → shown_references (with_kept r change kept) ≡ changed_at r change (shown_references kept)
changed_shown kept r change = go (slice_get kept r) refl
  where
    go : (found : Option Kept) → slice_get kept r ≡ found
        → shown_references (option_map_or (λ k. slice_set kept r (record k { shown = change k.shown })) found kept)
        ≡ changed_at r change (shown_references kept)
    go None is =
        rw (slice_get-map {A = Kept} {B = Reference} (λ k. k.shown) kept r, is) refl
    go (Some k) is =
        rw (map-set {A = Kept} {B = Reference} (λ l. l.shown) kept r (record k { shown = change k.shown }), slice_get-map {A = Kept} {B = Reference} (λ l. l.shown) kept r, is) refl

-- the fault of the reference at a position is its own
pub fault_shown : (limits : Limits) (first : ℕ) (heads : List TableHead) (kept : List Kept) (r : ℕ) (own : Reference → Option RefFault)
    → fault_at (record { limits = limits; first = first; heads = heads; references = shown_references kept }) r own ≡ kept_fault kept r own
fault_shown limits first heads kept r own =
    rw (slice_get-map {A = Kept} {B = Reference} (λ k. k.shown) kept r) (go (slice_get kept r))
  where
    go : (found : Option Kept)
        → option_map_or own (option_map (λ (k : Kept). k.shown) found) None
        ≡ option_map_or (λ (k : Kept). own k.shown) found None
    go None = refl
    go (Some k) = refl

-- the reference of a head is one of these
pub reference_within : (heads : List TableHead) (kept : List Kept) (i : ℕ) (h : TableHead) → AreKept heads kept
    → i < length heads → h ≡ slice_index_or heads i h → h.list < length kept
reference_within heads kept i h all within read =
    elim (cases_lt h.list (length kept)) [
      | inl inside ↦ inside
      | inr past ↦ absurd (impossible (rw (slice_get_past kept h.list past) at some))
    ]
  where
    some : is_some (use_with h.by h.ci (kept_uses kept h.list)) ≡ true
    some =
        rw (all.uses h.list) at (known_use 0 heads i h (slice_get_read heads (length heads) i h refl within read))

    impossible : false ≡ true → ⊥
    impossible e = cc

pub found_here : (limits : Limits) (first : ℕ) (heads : List TableHead) (kept : List Kept) (i : ℕ) (h : TableHead) (k : Kept) (v : Value)
    → i < length heads → h ≡ slice_index_or heads i h → slice_get kept h.list ≡ Some k
    → found_entry h.by h.ci (version_entries k.shown None) v
    ≡ found_at heads (searched_lists (record { limits = limits; first = first; heads = heads; references = shown_references kept })) i v
found_here limits first heads kept i h k v within read is =
    let head : slice_get heads i ≡ Some h = slice_get_read heads (length heads) i h refl within read in
    rw (head, slice_get-map {A = Reference} {B = List Entry} (λ reference. version_entries reference None) (shown_references kept) h.list, slice_get-map {A = Kept} {B = Reference} (λ l. l.shown) kept h.list, is) refl

-- what a search by a head costs
pub cost_here : (limits : Limits) (first : ℕ) (heads : List TableHead) (kept : List Kept) (i : ℕ) (h : TableHead) (k : Kept) (v : Value)
    → i < length heads → h ≡ slice_index_or heads i h → slice_get kept h.list ≡ Some k
    → search_steps h.by h.ci (version_entries k.shown None) v
    ≡ find_steps (record { limits = limits; first = first; heads = heads; references = shown_references kept }) i v
cost_here limits first heads kept i h k v within read is =
    let head : slice_get heads i ≡ Some h = slice_get_read heads (length heads) i h refl within read in
    rw (head, slice_get-map {A = Kept} {B = Reference} (λ l. l.shown) kept h.list, is) refl

-- a use that the reference doesn't keep isn't one
pub no_use : (heads : List TableHead) (kept : List Kept) (r : ℕ) (k : Kept) (method : By) (ci : Bool)
    → AreKept heads kept → slice_get kept r ≡ Some k
    → None ≡ option_map (λ u. u.head) (use_with method ci k.uses) → use_with method ci (uses_of heads r) ≡ None
no_use heads kept r k method ci all found none =
    let same : uses_of heads r ≡ k.uses = rw found at (all.uses r) in
    rw same (go (use_with method ci k.uses) none)
  where
    go : (u : Option Use) → None ≡ option_map (λ v. v.head) u → u ≡ None
    go None e = refl
    go (Some v) e = absurd (cc)

-- the content of which these are parts
abbrev pub content_of : Limits → ℕ → List TableHead → List Kept → References
content_of limits first heads kept =
    record { limits = limits; first = first; heads = heads; references = shown_references kept }

-- a use that it keeps is one
pub known_head : (heads : List TableHead) (kept : List Kept) (r : ℕ) (k : Kept) (method : By) (ci : Bool) (head : ℕ)
    → AreKept heads kept → slice_get kept r ≡ Some k → Some head ≡ option_map (λ u. u.head) (use_with method ci k.uses)
    → head ≡ option_map_or (λ u. u.head) (use_with method ci (uses_of heads r)) (length heads)
known_head heads kept r k method ci head all found is =
    let same : uses_of heads r ≡ k.uses = rw found at (all.uses r) in
    rw same (go (use_with method ci k.uses) is)
  where
    go : (u : Option Use) → Some head ≡ option_map (λ v. v.head) u → head ≡ option_map_or (λ v. v.head) u (length heads)
    go None e = absurd (cc)
    go (Some v) e = same_Some head v.head e

pub known_heads : (limits : Limits) (first : ℕ) (heads : List TableHead) (kept : List Kept) (r : ℕ) (k : Kept) (method : By) (ci : Bool) (head : ℕ)
    → AreKept heads kept → slice_get kept r ≡ Some k → Some head ≡ option_map (λ u. u.head) (use_with method ci k.uses)
    → content_of limits first heads kept ≡ after_use (content_of limits first heads kept) r method ci
known_heads limits first heads kept r k method ci head all found is =
    let same : uses_of heads r ≡ k.uses = rw found at (all.uses r) in
    rw same (go (use_with method ci k.uses) is)
  where
    some : (u : Option Use) → Some head ≡ option_map (λ v. v.head) u → is_some u ≡ true
    some None e = absurd (cc)
    some (Some v) e = refl

    go : (u : Option Use) → Some head ≡ option_map (λ v. v.head) u
        → content_of limits first heads kept
        ≡ record (content_of limits first heads kept) { heads = if is_some u then heads else heads ++ record { by = method; ci = ci; list = r } ∷ [] }
    go u e = rw (some u e) refl

-- nothing was added to it
pub none_added : (kept : List Kept) (r : ℕ) (k : Kept) → slice_get kept r ≡ Some k
    → IfSome (slice_get (shown_references kept) r) (λ reference. AreEmpty reference.versions) → AreEmpty k.shown.versions
none_added kept r k is none =
    rw (slice_get-map {A = Kept} {B = Reference} (λ l. l.shown) kept r, is) at none

-- ---- one more reference, one more use

pub kept_with_new : (heads : List TableHead) (kept : List Kept) (new : Kept) → length kept < 65536 → new.uses ≡ []
    → All (λ reference. reference.id ≢ new.shown.id) (shown_references kept)
    → IfSome new.shown.file (λ name. All (λ reference. reference.file ≢ Some name) (shown_references kept))
    → AreKept heads kept → AreKept heads (kept ++ new ∷ [])
kept_with_new heads kept new few none number file all = record {
  few = rw (length-append kept (new ∷ [])) (omega arith);
  uses = uses;
  names = rw (map-append (λ k. k.shown) kept (new ∷ []))
      (own_names_more (shown_references kept) new.shown number file all.names);
}
  where
    uses : (r : ℕ) → uses_of heads r ≡ kept_uses (kept ++ new ∷ []) r
    uses r = elim (cases_lt r (length kept)) [
      | inl within ↦ rw (get_more kept new r within) (all.uses r)
      | inr past ↦ elim (cases_lt (length kept) r) [
        | inl beyond ↦ rw (get_past kept new r beyond) (rw (slice_get_past kept r past) at (all.uses r))
        | inr least ↦
            let here : r ≡ length kept = omega arith in
            rw here
            (rw (get_last kept new, none) (rw (slice_get_past kept (length kept) (omega arith)) at (all.uses (length kept))))
      ]
    ]

-- a change that isn't shown
pub shown_same : (kept : List Kept) (r : ℕ) (k new : Kept) → slice_get kept r ≡ Some k → new.shown ≡ k.shown
    → shown_references (slice_set kept r new) ≡ shown_references kept
shown_same kept r k new found same =
    map-set_same (λ l. l.shown) kept r new k
    (same ∙ ap (λ (l : Kept). l.shown) (sym (get_or_from_slice_get kept r k k found)))

pub kept_after_use : (heads : List TableHead) (kept : List Kept) (r : ℕ) (k new : Kept) (method : By) (ci : Bool)
    → slice_get kept r ≡ Some k
    → new.uses ≡ k.uses ++ record { by = method; ci = ci; head = length heads } ∷ [] → new.shown ≡ k.shown
    → AreKept heads kept
    → AreKept (heads ++ record { by = method; ci = ci; list = r } ∷ []) (slice_set kept r new)
kept_after_use heads kept r k new method ci found more same all = record {
  few = rw (length-set kept r new) all.few;
  uses = uses;
  names = rw (shown_same kept r k new found same) all.names;
}
  where
    uses : (q : ℕ) → uses_of (heads ++ record { by = method; ci = ci; list = r } ∷ []) q ≡ kept_uses (slice_set kept r new) q
    uses q = elim (cases_Bool (r == q)) [
      | inl same ↦
          let is_q : r ≡ q = eqb-true r q same in
          rw (uses_of_more heads (record { by = method; ci = ci; list = r }) q, same, ← is_q, all.uses r, found, get_set_same kept r k new found, more) refl
      | inr other ↦
          rw (uses_of_others heads (record { by = method; ci = ci; list = r }) q other, get_set_other kept r q new (eqb-false r q other))
          (all.uses q)
    ]

-- ---- a change of a reference

-- one that leaves its uses, its number and its file
pub kept_after_change : (heads : List TableHead) (kept : List Kept) (r : ℕ) (change : Reference → Reference)
    → KeepsNames change → AreKept heads kept → AreKept heads (with_kept r change kept)
kept_after_change heads kept r change keeps all = record {
  few = rw (same_length (slice_get kept r)) all.few;
  uses = λ q. all.uses q ∙ sym (same_uses q (slice_get kept r) refl);
  names = rw (changed_shown kept r change) (own_names_stay (shown_references kept) r change keeps all.names);
}
  where
    same_length : (found : Option Kept)
        → length (option_map_or (λ k. slice_set kept r (record k { shown = change k.shown })) found kept) ≡ length kept
    same_length None = refl
    same_length (Some k) = length-set kept r (record k { shown = change k.shown })

    same_uses : (q : ℕ) (found : Option Kept) → slice_get kept r ≡ found
        → kept_uses (option_map_or (λ k. slice_set kept r (record k { shown = change k.shown })) found kept) q
        ≡ kept_uses kept q
    same_uses q None is = refl
    same_uses q (Some k) is = elim (cases_eq r q) [
      | inl here ↦
          rw (← here, get_set_same kept r k (record k { shown = change k.shown }) is, is) refl
      | inr apart ↦
          rw (get_set_other kept r q (record k { shown = change k.shown }) apart) refl
    ]

-- one where it is answered that it is done, else none
pub kept_after_answer : {T E : Type 0} (answer : Result T E) (heads : List TableHead) (old new : KeptState) (r : ℕ)
    (change : Reference → Reference) → KeepsNames change
    → OnOk answer (new.kept ≡ with_kept r change old.kept) → OnErr answer (new ≡ old) → AreKept heads old.kept
    → AreKept heads new.kept
kept_after_answer (Ok x) heads old new r change keeps done stays all =
    rw done (kept_after_change heads old.kept r change keeps all)
kept_after_answer (Err e) heads old new r change keeps done stays all = rw stays all

-- what is seen of the references after a change of one
pub content_after : (limits : Limits) (first : ℕ) (heads : List TableHead) (old new : List Kept) (r : ℕ) (change : Reference → Reference)
    → new ≡ with_kept r change old
    → record { limits = limits; first = first; heads = heads; references = shown_references new }
    ≡ with_reference r change (record { limits = limits; first = first; heads = heads; references = shown_references old })
content_after limits first heads old new r change is =
    ap (λ (references : List Reference). record { limits = limits; first = first; heads = heads; references = references })
    (ap shown_references is ∙ changed_shown old r change)
