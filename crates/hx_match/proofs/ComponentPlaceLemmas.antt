-- The places at which a part stands between delimiters.
use Rattle.std.proofs.Common.{◌≡◌, ℕ, zero, suc, ◌+◌, ◌-◌, ◌<◌, ◌≤◌, Bool, true, false, ◌&&◌, ◌⊎◌, inl, inr, List, [], ◌∷◌, ◌++◌, length, take, drop, refl, sym, ap, ◌∙◌, arith}
use Rattle.std.specs.Prelude.{reverse, slice_index, None, Some}
use Rattle.std.proofs.lemmas.Bool.{cases_lt, false≢true}
use Rattle.std.proofs.lemmas.List.{drop-drop, length-append, take-append-drop, take_at}
use Rattle.std.proofs.lemmas.List.Prefix.{front_rest}
use mathlib.Core.List.{reverse-cons}
use Rattle.memchr.specs.Find.{FindsNeedle, Nowhere, OccursAt}
use Rattle.hx_sample.specs.Keys.{is_delimited_part, is_ended}
use Rattle.hx_match.specs.Needles.{BeginsAt, IsComponentCandidate, IsLeastPeriod, StandsAt}
use Rattle.hx_match.proofs.BetweenLemmas.{between_delimited, both, delimited_between, split_starts, starts_split}
use Rattle.hx_match.proofs.PlaceLemmas.{begins_again, begins_nowhere, nowhere_nearer}
use Rattle.hx_match.proofs.TextLemmas.{occurs_starts, starts_occurs}

-- ---- the end of some bytes

ended_more : (test : ℕ → Bool) (xs : List ℕ) (y x : ℕ)
    → is_ended test ((xs ++ y ∷ []) ++ x ∷ []) ≡ is_ended test (xs ++ y ∷ [])
ended_more test [] y x = refl
ended_more test (z ∷ xs) y x = refl

-- bytes end with a delimiter where their last one is one
pub ended_before : (test : ℕ → Bool) (xs : List ℕ) (n : ℕ) → length xs ≡ n + 1
    → test (slice_index xs n) ≡ is_ended test (reverse xs)
ended_before test [] n e = absurd (omega (arith, e))
ended_before test (x ∷ []) zero e = refl
ended_before test (x ∷ []) (suc n) e = absurd (omega (arith, e))
ended_before test (x ∷ y ∷ xs) zero e = absurd (omega (arith, e))
ended_before test (x ∷ y ∷ xs) (suc n) e =
    ended_before test (y ∷ xs) n (omega (arith, e))
    ∙ ap (λ l. is_ended test l) (reverse-cons y xs)
    ∙ sym (ended_more test (reverse xs) y x)
    ∙ ap (λ l. is_ended test (l ++ x ∷ [])) (sym (reverse-cons y xs))
    ∙ ap (λ l. is_ended test l) (sym (reverse-cons x (y ∷ xs)))

-- ---- places

pub first_place : (test : ℕ → Bool) (text part : List ℕ) → IsComponentCandidate test text part 0 0
first_place test text part = record {
  begins = begins_nowhere text part;
  before = λ k low high stands. absurd (omega (arith, high));
}

-- what is found from a candidate on stands nowhere before as a component
before_found : (test : ℕ → Bool) (text part : List ℕ) (s m at : ℕ) → IsComponentCandidate test text part s m
    → Nowhere (OccursAt text part) s at → Nowhere (StandsAt test text part) 0 at
before_found test text part s m at here none k low high stands = go (cases_lt k s)
  where
    go : (k < s) ⊎ (s ≤ k) → ⊥
    go (inl lt) = here.before k low lt stands
    go (inr ge) = none k ge high stands.occurs

-- where the part stands, but not between delimiters, the next place is after its period
pub next_candidate : (test : ℕ → Bool) (text part : List ℕ) (s m at p : ℕ) → IsComponentCandidate test text part s m
    → 0 < length part → FindsNeedle text part s (Some at) → IsLeastPeriod part (length part) p
    → (is_ended test (reverse (take at text)) && is_ended test (drop (at + length part) text)) ≡ false
    → IsComponentCandidate test text part (at + p) (length part - p)
next_candidate test text part s m at p here some found least other = record {
  begins = begins_again text part at (length part) p begins least (omega (arith, occurs.fits, some));
  before = λ k low high stands. go k low high stands (cases_lt k at);
}
  where
    occurs : OccursAt text part at
    occurs = found.1

    begins : BeginsAt text part at (length part)
    begins = record {
      fits = occurs.fits;
      within = omega arith;
      reads = occurs.reads;
    }

    not_there : (a b : Bool) → (a && b) ≡ false → a ≡ true → b ≡ true → ⊥
    not_there true true none first second = false≢true (sym none)
    not_there true false none first second = false≢true second
    not_there false b none first second = false≢true first

    not_here : (k : ℕ) → k ≡ at → StandsAt test text part k → ⊥
    not_here k is stands =
        not_there (is_ended test (reverse (take at text))) (is_ended test (drop (at + length part) text)) other
        (sym (ap (λ j. is_ended test (reverse (take j text))) is) ∙ stands.begins)
        (sym (ap (λ j. is_ended test (drop (j + length part) text)) is) ∙ stands.ends)

    later : (k : ℕ) → at ≤ k → k < at + p → StandsAt test text part k → (at < k) ⊎ (k ≤ at) → ⊥
    later k ge high stands (inl gt) =
        nowhere_nearer text part at (length part) p begins least k (omega (arith, gt)) high stands.occurs
    later k ge high stands (inr le) = not_here k (omega (arith, ge, le)) stands

    go : (k : ℕ) → 0 ≤ k → k < at + p → StandsAt test text part k → (k < at) ⊎ (at ≤ k) → ⊥
    go k low high stands (inl lt) =
        before_found test text part s m at here found.0.before k low lt stands
    go k low high stands (inr ge) = later k ge high stands (cases_lt at k)

-- ---- what the search answers

after_sum : (m n : ℕ) (text : List ℕ) → drop (m + n) text ≡ drop n (drop m text)
after_sum m n text = sym (drop-drop n m text)

pub stands_delimited : (test : ℕ → Bool) (text part : List ℕ) (at : ℕ) → OccursAt text part at
    → (is_ended test (reverse (take at text)) && is_ended test (drop (at + length part) text)) ≡ true
    → true ≡ is_delimited_part test part text
stands_delimited test text part at occurs ends =
    let sides = both (is_ended test (reverse (take at text))) (is_ended test (drop (at + length part) text)) ends in
    let rest = starts_split (drop at text) part (occurs_starts text part at occurs) in
    let after : drop (at + length part) text ≡ drop (length part) (drop at text) = after_sum at (length part) text in
    sym (between_delimited test part (take at text) (drop (length part) (drop at text)) text
    (sym (take-append-drop at text) ∙ ap (λ l. take at text ++ l) rest)
    sides.0 (sym (ap (λ l. is_ended test l) after) ∙ sides.1))

pub stands_nowhere : (test : ℕ → Bool) (text part : List ℕ) (s m : ℕ) → IsComponentCandidate test text part s m
    → FindsNeedle text part s None → false ≡ is_delimited_part test part text
stands_nowhere test text part s m here none =
    sym (not_true (is_delimited_part test part text) (λ is. never (delimited_between test part text is)))
  where
    not_true : (b : Bool) → (b ≡ true → ⊥) → b ≡ false
    not_true true impossible = absurd (impossible refl)
    not_true false impossible = refl

    never : (before : List ℕ) × (after : List ℕ) × (text ≡ before ++ (part ++ after))
        × (is_ended test (reverse before) ≡ true) × (is_ended test after ≡ true) → ⊥
    never (before, after, e, closed, ended) =
        let n = length before in
        let length_is : length text ≡ n + (length part + length after) =
        ap length e ∙ length-append before (part ++ after) ∙ ap (λ k. n + k) (length-append part after) in
        let rest : drop n text ≡ part ++ after = front_rest text before (part ++ after) e in
        let front : take n text ≡ before = ap (λ l. take n l) e ∙ take_at before (part ++ after) n refl in
        let rest_after : drop (n + length part) text ≡ after =
        after_sum n (length part) text ∙ front_rest (drop n text) part after rest in
        before_found test text part s m (length text + 1) here none n (omega arith) (omega (arith, length_is))
        (record {
          occurs = starts_occurs text part n (omega (arith, length_is)) (split_starts (drop n text) part after rest);
          begins = ap (λ l. is_ended test (reverse l)) front ∙ closed;
          ends = ap (λ l. is_ended test l) rest_after ∙ ended;
        })
