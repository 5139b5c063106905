-- The uses of references, by their heads.
use Rattle.std.proofs.Common.{◌≡◌, ℕ, zero, suc, ◌+◌, ◌==◌, Bool, true, false, List, [], ◌∷◌, ◌++◌, length, refl, arith, inl, inr}
use Rattle.std.specs.Prelude.{Some, is_some, slice_get, if◌then◌else◌}
use Rattle.std.proofs.lemmas.Bool.{cases_Bool, eq-eqb}
use Rattle.hx_text.specs.declared.kinds.By.{By}
use Rattle.hx_sample.specs.Tables.{TableHead}
use Rattle.hx_refs.specs.Uses.{Use, is_use, use_place, use_with, uses_from, uses_of}

-- ---- one more head

abbrev pub use_if_head : ℕ → TableHead → ℕ → List Use
use_if_head number h r =
    if h.list == r then record { by = h.by; ci = h.ci; head = number } ∷ [] else []

uses_from_more : (number : ℕ) (heads : List TableHead) (h : TableHead) (r : ℕ)
    → uses_from number (heads ++ h ∷ []) r
    ≡ uses_from number heads r ++ use_if_head (number + length heads) h r
uses_from_more number [] h r =
    let none_before : number + 0 ≡ number = omega arith in
    elim (cases_Bool (h.list == r)) [
      | inl same ↦ rw (same, none_before) refl
      | inr other ↦ rw other refl
    ]
uses_from_more number (g ∷ heads) h r =
    let place : number + suc (length heads) ≡ number + 1 + length heads = omega arith in
    let more : uses_from (number + 1) (heads ++ h ∷ []) r
    ≡ uses_from (number + 1) heads r ++ use_if_head (number + suc (length heads)) h r =
    rw place (uses_from_more (number + 1) heads h r) in
    elim (cases_Bool (g.list == r)) [
      | inl same ↦ rw (same, more) refl
      | inr other ↦ rw (other, more) refl
    ]

pub uses_of_more : (heads : List TableHead) (h : TableHead) (r : ℕ)
    → uses_of (heads ++ h ∷ []) r ≡ uses_of heads r ++ use_if_head (length heads) h r
uses_of_more heads h r =
    let zero_more : 0 + length heads ≡ length heads = omega arith in
    rw zero_more at (uses_from_more 0 heads h r)

-- the uses of another reference stay
pub uses_of_others : (heads : List TableHead) (h : TableHead) (r : ℕ) → (h.list == r) ≡ false
    → uses_of (heads ++ h ∷ []) r ≡ uses_of heads r
uses_of_others heads h r other = go 0 heads
  where
    go : (number : ℕ) (gs : List TableHead) → uses_from number (gs ++ h ∷ []) r ≡ uses_from number gs r
    go number [] = rw other refl
    go number (g ∷ gs) = rw (go (number + 1) gs) refl

-- ---- the use of a head

is_same : (method : By) (ci : Bool) (head : ℕ) → is_use method ci (record { by = method; ci = ci; head = head }) ≡ true
is_same method ci head = eq-eqb (use_place method ci) (use_place method ci) refl

-- each head is that of a use of its list
pub known_use : (number : ℕ) (heads : List TableHead) (i : ℕ) (h : TableHead) → slice_get heads i ≡ Some h
    → is_some (use_with h.by h.ci (uses_from number heads h.list)) ≡ true
known_use number [] i h is = absurd (cc)
known_use number (g ∷ heads) zero h is =
    let same : g ≡ h = cc in
    let list : (h.list == h.list) ≡ true = eq-eqb h.list h.list refl in
    rw (same, list, is_same h.by h.ci number) refl
known_use number (g ∷ heads) (suc i) h is =
    elim (cases_Bool (g.list == h.list)) [
      | inr other ↦ rw other (known_use (number + 1) heads i h is)
      | inl same ↦ elim (cases_Bool (is_use h.by h.ci (record { by = g.by; ci = g.ci; head = number }))) [
        | inl this ↦ rw (same, this) refl
        | inr passed ↦ rw (same, passed) (known_use (number + 1) heads i h is)
      ]
    ]
