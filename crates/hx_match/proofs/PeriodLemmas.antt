-- The least periods of a key's beginnings, one after another.
use Rattle.std.proofs.Common.{◌≡◌, ◌≢◌, ℕ, [], ◌∷◌, ◌++◌, ◌+◌, ◌-◌, ◌<◌, ◌≤◌, ◌⊎◌, inl, inr, List, length, sym, ap, subst, ◌∙◌, arith}
use Rattle.std.specs.Prelude.{slice_index}
use Rattle.std.proofs.lemmas.Bool.{cases_lt}
use Rattle.std.proofs.lemmas.List.{get_or_append_left, get_or_push, length_push}
use Rattle.memchr.specs.Critical.{IsPeriod}
use Rattle.hx_match.specs.Needles.{AreFirstPeriods, ArePeriods, IsLeastPeriod, MayBePeriod}

-- nothing repeats after one byte
pub no_byte : (key : List ℕ) → IsLeastPeriod key 0 1
no_byte key = record {
  some = omega arith;
  within = omega arith;
  periodic = λ k fits. absurd (omega (arith, fits));
  least = λ d some below period. omega (arith, some, below);
}

pub of_last : (key : List ℕ) (m p : ℕ) → IsLeastPeriod key m p → MayBePeriod key m p
of_last key m p least = record {
  some = least.some;
  within = omega (arith, least.within);
  periodic = least.periodic;
  least = λ d some below period. least.least d some below (λ k fits. period k (omega (arith, fits)));
}

-- the next byte is that which stands p bytes before it
pub repeats_on : (key : List ℕ) (m p : ℕ) → MayBePeriod key m p → p ≤ m
    → slice_index key m ≡ slice_index key (m - p) → IsLeastPeriod key (m + 1) p
repeats_on key m p may le same = record {
  some = may.some;
  within = omega (arith, le);
  periodic = λ k fits. go k fits (cases_lt (k + p) m);
  least = may.least;
}
  where
    go : (k : ℕ) → k + p < m + 1 → (k + p < m) ⊎ (m ≤ k + p) → slice_index key k ≡ slice_index key (k + p)
    go k fits (inl below) = may.periodic k below
    go k fits (inr last) =
        let at : m ≡ k + p = omega (arith, fits, last) in
        let from : m - p ≡ k = omega (arith, fits, last) in
        sym (ap (λ n. slice_index key n) from) ∙ sym same ∙ ap (λ n. slice_index key n) at

-- all bytes as far as the next one
pub repeats_never : (key : List ℕ) (m p : ℕ) → MayBePeriod key m p → m < p → IsLeastPeriod key (m + 1) p
repeats_never key m p may gt = record {
  some = may.some;
  within = omega (arith, may.within);
  periodic = λ k fits. absurd (omega (arith, fits, gt));
  least = may.least;
}

-- the next byte is another than the one p bytes before it
pub repeats_later : (key : List ℕ) (m p r : ℕ) → MayBePeriod key m p → p ≤ m
    → slice_index key m ≢ slice_index key (m - p) → IsLeastPeriod key (m - p) r → MayBePeriod key m (p + r)
repeats_later key m p r may le other next = record {
  some = omega (arith, may.some);
  within = omega (arith, le, next.within);
  periodic = λ k fits.
      next.periodic k (omega (arith, fits))
      ∙ may.periodic (k + r) (omega (arith, fits))
      ∙ ap (λ n. slice_index key n) (of_sum k);
  least = λ d some below period. go d some below period (cases_lt d p);
}
  where
    of_sum : (k : ℕ) → k + r + p ≡ k + (p + r)
    of_sum k = omega arith

    beyond : (d : ℕ) → p < d → d < p + r → IsPeriod (slice_index key) (m + 1) d → ⊥
    beyond d gt below period =
        next.least (d - p) (omega (arith, gt)) (omega (arith, below, gt))
        (λ k fits.
        let sum : k + (d - p) + p ≡ k + d = omega (arith, gt) in
        period k (omega (arith, fits, gt, le))
        ∙ sym (may.periodic (k + (d - p)) (omega (arith, fits, gt, le)) ∙ ap (λ n. slice_index key n) sum))

    same : (d : ℕ) → d ≡ p → IsPeriod (slice_index key) (m + 1) d → ⊥
    same d is period =
        let sum : m - p + d ≡ m = omega (arith, is, le) in
        other (sym (period (m - p) (omega (arith, sum)) ∙ ap (λ n. slice_index key n) sum))

    above : (d : ℕ) → p ≤ d → d < p + r → IsPeriod (slice_index key) (m + 1) d → (p < d) ⊎ (d ≤ p) → ⊥
    above d ge below period (inl gt) = beyond d gt below period
    above d ge below period (inr is) = same d (omega (arith, ge, is)) period

    go : (d : ℕ) → 0 < d → d < p + r → IsPeriod (slice_index key) (m + 1) d → (d < p) ⊎ (p ≤ d) → ⊥
    go d some below period (inl lt) = may.least d some lt period
    go d some below period (inr ge) = above d ge below period (cases_lt p d)

-- ---- the list of periods

pub first_period : (key : List ℕ) → AreFirstPeriods key (1 ∷ []) 1
first_period key = record {
  some = omega arith;
  within = omega arith;
  each = λ m below. subst (λ n. IsLeastPeriod key n (slice_index (1 ∷ []) n)) (none m below) (no_byte key);
  last = no_byte key;
}
  where
    none : (m : ℕ) → m < 1 → 0 ≡ m
    none m below = omega (arith, below)

pub one_more_period : (key periods : List ℕ) (last p : ℕ) → AreFirstPeriods key periods last
    → length periods ≤ length key → IsLeastPeriod key (length periods) p
    → AreFirstPeriods key (periods ++ p ∷ []) p
one_more_period key periods last p first more next = record {
  some = omega (arith, length_push periods p);
  within = omega (arith, length_push periods p, more);
  each = λ m below. go m below (cases_lt m (length periods));
  last = subst (λ n. IsLeastPeriod key n p) at next;
}
  where
    at : length periods ≡ length (periods ++ p ∷ []) - 1
    at = omega (arith, length_push periods p)

    last_one : (m : ℕ) → length periods ≡ m → IsLeastPeriod key m (slice_index (periods ++ p ∷ []) m)
    last_one m is = rw (get_or_push periods p 0 m is) (subst (λ n. IsLeastPeriod key n p) is next)

    go : (m : ℕ) → m < length (periods ++ p ∷ []) → (m < length periods) ⊎ (length periods ≤ m)
        → IsLeastPeriod key m (slice_index (periods ++ p ∷ []) m)
    go m below (inl old) = rw (get_or_append_left periods (p ∷ []) 0 m old) (first.each m old)
    go m below (inr new) = last_one m (omega (arith, new, below, length_push periods p))

pub all_periods : (key periods : List ℕ) (last : ℕ) → AreFirstPeriods key periods last
    → length key < length periods → ArePeriods key periods
all_periods key periods last first all = record {
  count = omega (arith, first.within, all);
  each = first.each;
}
