-- The numbers that references are given.
use Rattle.std.proofs.Common.{◌≡◌, ◌≢◌, ◌⊎◌, ℕ, suc, ◌+◌, ◌-◌, ◌<◌, ◌≤◌, ◌==◌, ◌||◌, Bool, true, false, List, [], ◌∷◌, ◌++◌, length, refl, sym, ap, ◌∙◌, arith, inl, inr, append-nil, subst}
use Rattle.std.specs.Prelude.{Option, None, Some, drop, slice_get, unwrap_or}
use Rattle.std.specs.BTreeSet.{BTreeSet, contains}
use Rattle.std.specs.List.{All, AllByRecursion, IsDistinct}
use Rattle.std.specs.Option.{option_map_or}
use Rattle.std.specs.Ordering.{nat_cmp}
use Rattle.std.proofs.lemmas.Bool.{cases_Bool, cases_lt, eqb-false, eq-eqb, ne_eqb}
use Rattle.std.proofs.lemmas.List.Elements.{All-cons, All-head, All-nil, All-same, All-tail, recursion_from_All}
use Rattle.hx_calls.specs.declared.TableSpec.{TableSpec}
use Rattle.hx_filling.specs.Declaring.{AreDistinct}
use Rattle.hx_filling.specs.References.{HaveDistinctNumbers, free_numbers, given_numbers, is_among, numbers_by, numbers_of, repeated_after}
use Rattle.hx_filling.proofs.FreeNumberLemmas.{free_count, free_is_distinct, free_is_not_given, free_range, free_range_has, free_range_splits}

-- the set has the numbers that are given before the rest, none of them twice
pub record HasGiven (given : BTreeSet ℕ) (rest specs : List TableSpec) : Type 0 where
  pub seen : List ℕ
  pub same : (n : ℕ) → contains nat_cmp given n ≡ is_among seen n
  pub once : repeated_after seen rest ≡ repeated_after [] specs
  pub all : (n : ℕ) → (is_among seen n || is_among (given_numbers rest) n) ≡ is_among (given_numbers specs) n

-- ---- numbers for references that have none

-- how many references have no number
abbrev pub unnumbered_count : List TableSpec → ℕ
unnumbered_count [] = 0
unnumbered_count (spec ∷ specs) =
    option_map_or (λ n. unnumbered_count specs) spec.given (unnumbered_count specs + 1)

-- by cases on a number that may be given
pub given_or_not : (given : Option ℕ) → ((n : ℕ) × (given ≡ Some n)) ⊎ (given ≡ None)
given_or_not (Some n) = inl (n, refl)
given_or_not None = inr refl

-- each reference has a number or none
counts_add_up : (specs : List TableSpec)
    → length (given_numbers specs) + unnumbered_count specs ≡ length specs
counts_add_up [] = omega arith
counts_add_up (spec ∷ specs) =
    let more = counts_add_up specs in
    elim (given_or_not spec.given) [
      | inl given ↦ rw (given.1) (omega (arith, more))
      | inr none ↦ rw none (omega (arith, more))
    ]

-- the numbers from one on that are given to none of the references
abbrev pub free_from : ℕ → List TableSpec → List ℕ
free_from from specs = free_range (given_numbers specs) from (length specs - from)

-- the numbers so far, with those of the rest by the numbers that are free from one on, are the
-- numbers of all, and there is a free one for each of the rest that has none
pub record HasNumbered (numbers : List ℕ) (free : ℕ) (rest specs : List TableSpec) : Type 0 where
  pub below : free ≤ length specs
  pub enough : unnumbered_count rest ≤ length (free_from free specs)
  pub same : numbers ++ numbers_by (free_from free specs) rest ≡ numbers_of specs

-- before the first reference
pub numbering_begins : (specs : List TableSpec) → HasNumbered [] 0 specs specs
numbering_begins specs =
    let all : length specs - 0 ≡ length specs = omega arith in
    let many = free_count (given_numbers specs) 0 (length specs) in
    let both = counts_add_up specs in
    record {
      below = omega arith;
      enough = rw all (omega (arith, many, both));
      same = rw all refl;
    }

more_after : (numbers : List ℕ) (n : ℕ) (later : List ℕ)
    → (numbers ++ n ∷ []) ++ later ≡ numbers ++ n ∷ later
more_after [] n later = refl
more_after (m ∷ numbers) n later = ap (λ ns. m ∷ ns) (more_after numbers n later)

-- a number that is given is the reference's
pub given_is_taken : (numbers : List ℕ) (free n : ℕ) (spec : TableSpec) (rest others specs : List TableSpec)
    → HasNumbered numbers free rest specs → rest ≡ spec ∷ others → spec.given ≡ Some n
    → HasNumbered (numbers ++ n ∷ []) free others specs
given_is_taken numbers free n spec rest others specs before list is =
    let has : HasNumbered numbers free (spec ∷ others) specs = rw list at before in
    record {
      below = has.below;
      enough = rw is at has.enough;
      same = more_after numbers n (numbers_by (free_from free specs) others) ∙ (rw is at has.same);
    }

-- there is a free number where a reference has none
pub one_is_free : (numbers : List ℕ) (free : ℕ) (spec : TableSpec) (rest others specs : List TableSpec)
    → HasNumbered numbers free rest specs → rest ≡ spec ∷ others → spec.given ≡ None
    → (n : ℕ) × (free ≤ n) × (n < length specs) × (is_among (given_numbers specs) n ≡ false)
one_is_free numbers free spec rest others specs before list is =
    let has : HasNumbered numbers free (spec ∷ others) specs = rw list at before in
    let many : unnumbered_count others + 1 ≤ length (free_from free specs) = rw is at has.enough in
    let one = free_range_has (given_numbers specs) free (length specs - free) (omega (arith, many)) in
    (one.0, one.1, omega (arith, one.2, has.below), one.3)

-- the number is the first from one on that is given to none of the references
pub record IsFirstFree (specs : List TableSpec) (from first : ℕ) : Type 0 where
  pub least : from ≤ first
  pub free : is_among (given_numbers specs) first ≡ false
  pub before : (n : ℕ) → from ≤ n → n < first → is_among (given_numbers specs) n ≡ true

-- the first number that the set of those that are given hasn't
pub is_first_free : (given : BTreeSet ℕ) (specs : List TableSpec)
    → ((n : ℕ) → contains nat_cmp given n ≡ is_among (given_numbers specs) n)
    → (from first : ℕ) → from ≤ first → contains nat_cmp given first ≡ false
    → ((n : ℕ) → from ≤ n → n < first → contains nat_cmp given n ≡ true)
    → IsFirstFree specs from first
is_first_free given specs same from first least free before = record {
  least = least;
  free = sym (same first) ∙ free;
  before = λ n high low. sym (same n) ∙ before n high low;
}

-- a number that isn't given stands no lower than the first of these
first_before : (specs : List TableSpec) (from first n : ℕ) → IsFirstFree specs from first
    → from ≤ n → is_among (given_numbers specs) n ≡ false → first ≤ n
first_before specs from first n is least none = elim (cases_lt n first) [
  | inl low ↦ absurd (cc (is.before n least low, none))
  | inr high ↦ high
]

-- so the first is less than the count of the references
pub first_is_below : (numbers : List ℕ) (free first : ℕ) (spec : TableSpec) (rest others specs : List TableSpec)
    → HasNumbered numbers free rest specs → rest ≡ spec ∷ others → spec.given ≡ None
    → IsFirstFree specs free first → first < length specs
first_is_below numbers free first spec rest others specs before list is found =
    let one = one_is_free numbers free spec rest others specs before list is in
    let low = first_before specs free first one.0 found one.1 one.3 in
    omega (arith, low, one.2)

-- the first number that is free is the reference's
pub free_is_taken : (numbers : List ℕ) (free first : ℕ) (spec : TableSpec) (rest others specs : List TableSpec)
    → HasNumbered numbers free rest specs → rest ≡ spec ∷ others → spec.given ≡ None
    → IsFirstFree specs free first → HasNumbered (numbers ++ first ∷ []) (first + 1) others specs
free_is_taken numbers free first spec rest others specs before list is found =
    let has : HasNumbered numbers free (spec ∷ others) specs = rw list at before in
    let many : unnumbered_count others + 1 ≤ length (free_from free specs) = rw is at has.enough in
    let low = first_is_below numbers free first spec rest others specs before list is found in
    let left : free + (length specs - free) - (first + 1) ≡ length specs - (first + 1) =
    omega (arith, has.below) in
    let split : free_from free specs ≡ first ∷ free_from (first + 1) specs =
    rw left at (free_range_splits (given_numbers specs) free (length specs - free) first found.least
    (omega (arith, low, has.below)) found.free found.before) in
    let taken : numbers ++ (unwrap_or (slice_get (free_from free specs) 0) 0
    ∷ numbers_by (drop 1 (free_from free specs)) others) ≡ numbers_of specs =
    rw is at has.same in
    record {
      below = omega (arith, low);
      enough = let count = ap length split in omega (arith, many, count);
      same = more_after numbers first (numbers_by (free_from (first + 1) specs) others)
          ∙ (rw split at taken);
    }

-- after the last reference
pub all_numbered : (numbers : List ℕ) (free : ℕ) (rest specs : List TableSpec)
    → HasNumbered numbers free rest specs → length rest < 1 → numbers ≡ numbers_of specs
all_numbered numbers free [] specs has none = sym (append-nil numbers) ∙ has.same
all_numbered numbers free (spec ∷ rest) specs has none = absurd (omega (arith, none))

-- ---- the numbers of all

numbers_by_count : (free : List ℕ) (specs : List TableSpec) → length (numbers_by free specs) ≡ length specs
numbers_by_count free [] = refl
numbers_by_count free (spec ∷ specs) = elim (given_or_not spec.given) [
  | inl given ↦ rw (given.1) (ap suc (numbers_by_count free specs))
  | inr none ↦ rw none (ap suc (numbers_by_count (drop 1 free) specs))
]

pub numbers_count : (specs : List TableSpec) → length (numbers_of specs) ≡ length specs
numbers_count specs = numbers_by_count (free_numbers specs) specs

-- ---- they are distinct

or_true : (b : Bool) → (b || true) ≡ true
or_true true = refl
or_true false = refl

-- where none is given again, what follows a number differs from it
given_apart : (seen : List ℕ) (n : ℕ) (specs : List TableSpec) → is_among seen n ≡ true
    → repeated_after seen specs ≡ None → All (λ m. n ≢ m) (given_numbers specs)
given_apart seen n [] among once = All-nil (λ m. n ≢ m)
given_apart seen n (spec ∷ specs) among once = elim (given_or_not spec.given) [
  | inr none ↦ rw none (given_apart seen n specs among (rw none at once))
  | inl given ↦ elim (cases_Bool (is_among seen given.0)) [
    | inl again ↦ absurd (cc (rw (given.1, again) at once))
    | inr new ↦
        let later : repeated_after (given.0 ∷ seen) specs ≡ None = rw (given.1, new) at once in
        let seen_too : is_among (given.0 ∷ seen) n ≡ true =
        rw among (or_true (given.0 == n)) in
        rw (given.1) (All-cons (λ m. n ≢ m) given.0 (given_numbers specs)
        (λ same. absurd (cc (among, new, same)))
        (given_apart (given.0 ∷ seen) n specs seen_too later))
  ]
]

differ_all : (n : ℕ) (numbers : List ℕ) → AllByRecursion (λ m. n ≢ m) numbers
    → AllByRecursion (λ m. (n == m) ≡ false) numbers
differ_all n [] all = tt
differ_all n (m ∷ numbers) all = (ne_eqb n m all.0, differ_all n numbers all.1)

-- and so the numbers that are given are distinct
pub given_distinct : (seen : List ℕ) (specs : List TableSpec) → repeated_after seen specs ≡ None
    → HaveDistinctNumbers specs
unfolding IsDistinct
given_distinct seen [] once = tt
given_distinct seen (spec ∷ specs) once = elim (given_or_not spec.given) [
  | inr none ↦ rw none (given_distinct seen specs (rw none at once))
  | inl given ↦ elim (cases_Bool (is_among seen given.0)) [
    | inl again ↦ absurd (cc (rw (given.1, again) at once))
    | inr new ↦
        let later : repeated_after (given.0 ∷ seen) specs ≡ None = rw (given.1, new) at once in
        let among : is_among (given.0 ∷ seen) given.0 ≡ true =
        rw (eq-eqb given.0 given.0 refl) refl in
        let apart = given_apart (given.0 ∷ seen) given.0 specs among later in
        rw (given.1) (
          differ_all given.0 (given_numbers specs)
              (recursion_from_All (λ m. given.0 ≢ m) (given_numbers specs) apart),
          given_distinct (given.0 ∷ seen) specs later,
        )
  ]
]

-- a list that isn't empty is its first number and those after it
first_and_after : (free : List ℕ) → 0 < length free → free ≡ unwrap_or (slice_get free 0) 0 ∷ drop 1 free
first_and_after [] some = absurd (omega (arith, some))
first_and_after (n ∷ free) some = refl

-- a number that differs from those that are given and those that are free differs from all
apart_from_all : (n : ℕ) (free : List ℕ) (specs : List TableSpec) → unnumbered_count specs ≤ length free
    → All (λ m. n ≢ m) free → All (λ m. n ≢ m) (given_numbers specs)
    → All (λ m. n ≢ m) (numbers_by free specs)
apart_from_all n free [] many apart given = All-nil (λ m. n ≢ m)
apart_from_all n free (spec ∷ specs) many apart given = elim (given_or_not spec.given) [
  | inl has ↦
      let all : All (λ m. n ≢ m) (has.0 ∷ given_numbers specs) = rw (has.1) at given in
      rw (has.1) (All-cons (λ m. n ≢ m) has.0 (numbers_by free specs)
      (All-head (λ m. n ≢ m) has.0 (given_numbers specs) all)
      (apart_from_all n free specs (rw (has.1) at many) apart
      (All-tail (λ m. n ≢ m) has.0 (given_numbers specs) all)))
  | inr none ↦
      let more : unnumbered_count specs + 1 ≤ length free = rw none at many in
      let split = first_and_after free (omega (arith, more)) in
      let count = ap length split in
      let all = All-same (λ m. n ≢ m) (unwrap_or (slice_get free 0) 0 ∷ drop 1 free) free (sym split) apart in
      rw none (All-cons (λ m. n ≢ m) (unwrap_or (slice_get free 0) 0) (numbers_by (drop 1 free) specs)
      (All-head (λ m. n ≢ m) (unwrap_or (slice_get free 0) 0) (drop 1 free) all)
      (apart_from_all n (drop 1 free) specs (omega (arith, more, count))
      (All-tail (λ m. n ≢ m) (unwrap_or (slice_get free 0) 0) (drop 1 free) all) (rw none at given)))
]

-- a number that isn't among these differs from each
apart_from_each : (n : ℕ) (numbers : List ℕ) → is_among numbers n ≡ false → All (λ m. n ≢ m) numbers
apart_from_each n [] none = All-nil (λ m. n ≢ m)
apart_from_each n (m ∷ numbers) none = elim (cases_Bool (m == n)) [
  | inl same ↦ absurd (cc (rw same at none))
  | inr differ ↦ All-cons (λ m. n ≢ m) m numbers (λ same. eqb-false m n differ (sym same))
      (apart_from_each n numbers (rw differ at none))
]

-- the number isn't given
abbrev IsNotAmong : List ℕ → ℕ → Type 0
IsNotAmong given n = is_among given n ≡ false

-- what is free where one more is given differs from that one
first_apart : (n : ℕ) (given free : List ℕ) → All (IsNotAmong (n ∷ given)) free
    → All (λ m. n ≢ m) free × All (IsNotAmong given) free
first_apart n given [] none = (All-nil (λ m. n ≢ m), All-nil (IsNotAmong given))
first_apart n given (m ∷ free) none =
    let head : (n == m || is_among given m) ≡ false = All-head (IsNotAmong (n ∷ given)) m free none in
    let later = first_apart n given free (All-tail (IsNotAmong (n ∷ given)) m free none) in
    elim (cases_Bool (n == m)) [
      | inl same ↦ absurd (cc (rw same at head))
      | inr differ ↦ (
        All-cons (λ k. n ≢ k) m free (λ same. eqb-false n m differ same) later.0,
        All-cons (IsNotAmong given) m free (rw differ at head) later.1,
      )
    ]

numbers_by_distinct : (free seen : List ℕ) (specs : List TableSpec) → unnumbered_count specs ≤ length free
    → AreDistinct free → All (IsNotAmong (given_numbers specs)) free
    → repeated_after seen specs ≡ None → AreDistinct (numbers_by free specs)
numbers_by_distinct free seen [] many distinct none once = tt
numbers_by_distinct free seen (spec ∷ specs) many distinct none once = elim (given_or_not spec.given) [
  | inl has ↦ elim (cases_Bool (is_among seen has.0)) [
    | inl again ↦ absurd (cc (rw (has.1, again) at once))
    | inr new ↦
        let later : repeated_after (has.0 ∷ seen) specs ≡ None = rw (has.1, new) at once in
        let among : is_among (has.0 ∷ seen) has.0 ≡ true = rw (eq-eqb has.0 has.0 refl) refl in
        let more : unnumbered_count specs ≤ length free = rw (has.1) at many in
        let apart = first_apart has.0 (given_numbers specs) free (rw (has.1) at none) in
        rw (has.1) (
          apart_from_all has.0 free specs more apart.0 (given_apart (has.0 ∷ seen) has.0 specs among later),
          numbers_by_distinct free (has.0 ∷ seen) specs more distinct apart.1 later,
        )
  ]
  | inr out ↦
      let more : unnumbered_count specs + 1 ≤ length free = rw out at many in
      let split = first_and_after free (omega (arith, more)) in
      let count = ap length split in
      let first = unwrap_or (slice_get free 0) 0 in
      let after = drop 1 free in
      let apart : AreDistinct (first ∷ after) = subst AreDistinct split distinct in
      let others : All (IsNotAmong (given_numbers specs)) free = rw out at none in
      let all = All-same (IsNotAmong (given_numbers specs)) (first ∷ after) free (sym split) others in
      rw out (
        apart_from_all first after specs (omega (arith, more, count)) apart.0
            (apart_from_each first (given_numbers specs)
            (All-head (IsNotAmong (given_numbers specs)) first after all)),
        numbers_by_distinct after seen specs (omega (arith, more, count)) apart.1
            (All-tail (IsNotAmong (given_numbers specs)) first after all) (rw out at once),
      )
]

pub numbers_distinct : (specs : List TableSpec) → repeated_after [] specs ≡ None
    → AreDistinct (numbers_of specs)
numbers_distinct specs once =
    let many = free_count (given_numbers specs) 0 (length specs) in
    let both = counts_add_up specs in
    numbers_by_distinct (free_numbers specs) [] specs (omega (arith, many, both))
    (free_is_distinct (given_numbers specs) 0 (length specs))
    (free_is_not_given (given_numbers specs) 0 (length specs)) once
