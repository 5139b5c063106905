-- The numbers that are given to no reference: how many there are below a bound, and which is first.
use Rattle.std.proofs.Common.{◌≡◌, ◌≢◌, ℕ, zero, suc, ◌+◌, ◌-◌, ◌<◌, ◌≤◌, ◌==◌, Bool, true, false, not, List, [], ◌∷◌, length, refl, sym, ap, ◌∙◌, arith, inl, inr}
use Rattle.std.specs.Prelude.{filter}
use Rattle.std.specs.BTreeSet.{BTreeSet, contains}
use Rattle.std.specs.List.{All, range_with_len}
use Rattle.std.specs.Ordering.{nat_cmp}
use Rattle.std.proofs.lemmas.Bool.{cases_Bool, cases_lt, eqb-true, eqb-false, ne_eqb}
use Rattle.std.proofs.lemmas.List.Elements.{All-cons, All-nil, All-weaker, filter_passes}
use Rattle.hx_filling.specs.Declaring.{AreDistinct}
use Rattle.hx_filling.specs.References.{is_among}

-- the numbers that aren't given, of so many from one on
abbrev pub free_range : List ℕ → ℕ → ℕ → List ℕ
free_range given from count = filter (λ n. not (is_among given n)) (range_with_len from count)

-- ---- how many there are

range_count : (from count : ℕ) → length (range_with_len from count) ≡ count
range_count from zero = refl
range_count from (suc count) = ap suc (range_count (from + 1) count)

all_are_free : (from count : ℕ) → free_range [] from count ≡ range_with_len from count
all_are_free from zero = refl
all_are_free from (suc count) = ap (λ ns. from ∷ ns) (all_are_free (from + 1) count)

-- that a number below these is given leaves none of them out
same_beyond : (g : ℕ) (given : List ℕ) (from count : ℕ) → g < from
    → free_range (g ∷ given) from count ≡ free_range given from count
same_beyond g given from zero before = refl
same_beyond g given from (suc count) before =
    let apart : (g == from) ≡ false = ne_eqb g from (λ same. absurd (omega (arith, before, same))) in
    let later = same_beyond g given (from + 1) count (omega (arith, before)) in
    elim (cases_Bool (is_among given from)) [
      | inl among ↦ rw (apart, among) later
      | inr none ↦ rw (apart, none) (ap (λ ns. from ∷ ns) later)
    ]

-- that one more number is given leaves out at most one
at_most_one_less : (g : ℕ) (given : List ℕ) (from count : ℕ)
    → length (free_range given from count) ≤ length (free_range (g ∷ given) from count) + 1
at_most_one_less g given from zero = omega arith
at_most_one_less g given from (suc count) = elim (cases_Bool (g == from)) [
  | inl same ↦
      let later = ap length (same_beyond g given (from + 1) count (omega (arith, eqb-true g from same))) in
      elim (cases_Bool (is_among given from)) [
        | inl among ↦ rw (same, among) (omega (arith, later))
        | inr none ↦ rw (same, none) (omega (arith, later))
      ]
  | inr apart ↦
      let later = at_most_one_less g given (from + 1) count in
      elim (cases_Bool (is_among given from)) [
        | inl among ↦ rw (apart, among) later
        | inr none ↦ rw (apart, none) (omega (arith, later))
      ]
]

-- each number that is given leaves out at most one
pub free_count : (given : List ℕ) (from count : ℕ)
    → count ≤ length (free_range given from count) + length given
free_count [] from count =
    let all = ap length (all_are_free from count) ∙ range_count from count in omega (arith, all)
free_count (g ∷ given) from count =
    let before = free_count given from count in
    let one = at_most_one_less g given from count in
    omega (arith, before, one)

-- ---- which is first

-- where there is one, it is one of those numbers
pub free_range_has : (given : List ℕ) (from count : ℕ) → 0 < length (free_range given from count)
    → (n : ℕ) × (from ≤ n) × (n < from + count) × (is_among given n ≡ false)
free_range_has given from zero some = absurd (omega (arith, some))
free_range_has given from (suc count) some = elim (cases_Bool (is_among given from)) [
  | inr none ↦ (from, omega arith, omega arith, none)
  | inl among ↦
      let later = free_range_has given (from + 1) count (rw among at some) in
      (later.0, omega (arith, later.1), omega (arith, later.2), later.3)
]

-- the first of them, and those after it
pub free_range_splits : (given : List ℕ) (from count first : ℕ) → from ≤ first → first < from + count
    → is_among given first ≡ false
    → ((n : ℕ) → from ≤ n → n < first → is_among given n ≡ true)
    → free_range given from count ≡ first ∷ free_range given (first + 1) (from + count - (first + 1))
free_range_splits given from zero first least below none before = absurd (omega (arith, least, below))
free_range_splits given from (suc count) first least below none before =
    elim (cases_Bool (from == first)) [
      | inl same ↦
          let is : from ≡ first = eqb-true from first same in
          let free : is_among given from ≡ false = rw is none in
          let left : count ≡ from + suc count - (first + 1) = omega (arith, is) in
          rw free (rw is (ap (λ c. first ∷ free_range given (first + 1) c) (rw is at left)))
      | inr apart ↦
          let differ = eqb-false from first apart in
          let later = free_range_splits given (from + 1) count first
          (omega (arith, least, differ)) (omega (arith, below)) none
          (λ n high low. before n (omega (arith, high)) low) in
          let left : from + 1 + count ≡ from + suc count = omega arith in
          rw (before from (omega arith) (omega (arith, least, differ))) (rw left at later)
    ]

-- ---- they are distinct

is_below_all : (given : List ℕ) (n from count : ℕ) → n < from → All (λ m. n ≢ m) (free_range given from count)
is_below_all given n from zero before = All-nil (λ m. n ≢ m)
is_below_all given n from (suc count) before =
    let later = is_below_all given n (from + 1) count (omega (arith, before)) in
    elim (cases_Bool (is_among given from)) [
      | inl among ↦ rw among later
      | inr none ↦ rw none (All-cons (λ m. n ≢ m) from (free_range given (from + 1) count)
          (λ same. absurd (omega (arith, before, same))) later)
    ]

pub free_is_distinct : (given : List ℕ) (from count : ℕ) → AreDistinct (free_range given from count)
free_is_distinct given from zero = tt
free_is_distinct given from (suc count) =
    let later = free_is_distinct given (from + 1) count in
    elim (cases_Bool (is_among given from)) [
      | inl among ↦ rw among later
      | inr none ↦ rw none (is_below_all given from (from + 1) count (omega arith), later)
    ]

-- none of them is given
pub free_is_not_given : (given : List ℕ) (from count : ℕ)
    → All (λ n. is_among given n ≡ false) (free_range given from count)
free_is_not_given given from count =
    All-weaker (λ n. not (is_among given n) ≡ true) (λ n. is_among given n ≡ false)
    (λ n. not_true (is_among given n)) (free_range given from count)
    (filter_passes (λ n. not (is_among given n)) (range_with_len from count))
  where
    not_true : (b : Bool) → not b ≡ true → b ≡ false
    not_true true is = sym is
    not_true false is = refl

-- ---- the search for the first

-- the set has all numbers from one on up to another
pub record HasAllBetween (given : BTreeSet ℕ) (from to : ℕ) : Type 0 where
  pub least : from ≤ to
  pub all : (n : ℕ) → from ≤ n → n < to → contains nat_cmp given n ≡ true

pub has_one_more : (given : BTreeSet ℕ) (from to : ℕ) → HasAllBetween given from to
    → contains nat_cmp given to ≡ true → HasAllBetween given from (to + 1)
has_one_more given from to has one = record {
  least = omega (arith, has.least);
  all = λ n least below. elim (cases_lt n to) [
    | inl low ↦ has.all n least low
    | inr high ↦
        let same : n ≡ to = omega (arith, high, below) in
        rw same one
  ];
}

-- a number that the set hasn't stands beyond those that it has
pub stands_beyond : (given : BTreeSet ℕ) (from to n : ℕ) → HasAllBetween given from to
    → contains nat_cmp given to ≡ true → from ≤ n → contains nat_cmp given n ≡ false → to < n
stands_beyond given from to n has one least none = elim (cases_lt to n) [
  | inl low ↦ low
  | inr high ↦
      let more = has_one_more given from to has one in
      absurd (cc (more.all n least (omega (arith, high)), none))
]
