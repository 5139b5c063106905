-- The places at which a key stands in a text, found by its periods.
use Rattle.std.proofs.Common.{◌≡◌, ◌≢◌, ℕ, Bool, true, false, ◌+◌, ◌-◌, ◌<◌, ◌≤◌, ◌⊎◌, inl, inr, List, length, take, drop, refl, sym, ap, ◌∙◌, arith}
use Rattle.std.specs.Prelude.{slice_index, None, Some}
use Rattle.std.proofs.lemmas.Bool.{cases_lt}
use Rattle.memchr.specs.Find.{FindsNeedle, Nowhere, OccursAt}
use Rattle.std.specs.Char.{to_ascii_lowercase}
use Rattle.std.proofs.lemmas.List.{get_or-drop, get_or-map, length-drop, length-map, take_rest}
use Rattle.hx_sample.specs.Keys.{folded}
use Rattle.hx_match.specs.Needles.{folded_byte, BeginsAt, IsCandidate, IsLeastPeriod}

pub first_candidate : (text key : List ℕ) (s m : ℕ) → BeginsAt text key s m → IsCandidate text key s s m
first_candidate text key s m begins = record {
  low = omega arith;
  begins = begins;
  before = λ k low high occurs. omega (arith, low, high);
}

-- the next byte is that of the key
pub one_more : (text key : List ℕ) (from s m : ℕ) → IsCandidate text key from s m
    → m < length key → s + m < length text → slice_index text (s + m) ≡ slice_index key m
    → IsCandidate text key from s (m + 1)
one_more text key from s m here below fits same = record {
  low = here.low;
  begins = record {
    fits = omega (arith, fits);
    within = omega (arith, below);
    reads = λ k lt. go k lt (cases_lt k m);
  };
  before = here.before;
}
  where
    go : (k : ℕ) → k < m + 1 → (k < m) ⊎ (m ≤ k) → slice_index text (s + k) ≡ slice_index key k
    go k lt (inl below) = here.begins.reads k below
    go k lt (inr ge) =
        let is : m ≡ k = omega (arith, lt, ge) in
        ap (λ n. slice_index text (s + n)) (sym is) ∙ same ∙ ap (λ n. slice_index key n) is

-- what stands at a place stands at none that is nearer to it than its period
pub nowhere_nearer : (text key : List ℕ) (s m p : ℕ) → BeginsAt text key s m → IsLeastPeriod key m p
    → Nowhere (OccursAt text key) (s + 1) (s + p)
nowhere_nearer text key s m p begins least k low high occurs =
    least.least (k - s) (omega (arith, low)) (omega (arith, low, high))
    (λ j fits.
    let sum : s + (j + (k - s)) ≡ k + j = omega (arith, low) in
    sym (occurs.reads j (omega (arith, fits, begins.within)))
    ∙ sym (ap (λ n. slice_index text n) sum)
    ∙ begins.reads (j + (k - s)) fits)

-- what stands at a place begins again after its period
pub begins_again : (text key : List ℕ) (s m p : ℕ) → BeginsAt text key s m → IsLeastPeriod key m p
    → s + (m - 1 + 1) ≤ length text → BeginsAt text key (s + p) (m - p)
begins_again text key s m p begins least room = record {
  fits = omega (arith, begins.fits, least.within, room);
  within = omega (arith, begins.within);
  reads = λ k below.
      let sum : s + (k + p) ≡ s + p + k = omega arith in
      sym (ap (λ n. slice_index text n) sum)
      ∙ begins.reads (k + p) (omega (arith, below))
      ∙ sym (least.periodic k (omega (arith, below)));
}

-- the next byte is another than that of the key
pub passed : (text key : List ℕ) (from s m p : ℕ) → IsCandidate text key from s m → IsLeastPeriod key m p
    → m < length key → s + m < length text → slice_index text (s + m) ≢ slice_index key m
    → IsCandidate text key from (s + p) (m - p)
passed text key from s m p here least below fits other = record {
  low = omega (arith, here.low);
  begins = begins_again text key s m p here.begins least (omega (arith, fits));
  before = λ k low high occurs. go k low high occurs (cases_lt k s);
}
  where
    not_here : (k : ℕ) → k ≡ s → OccursAt text key k → ⊥
    not_here k is occurs =
        other (ap (λ n. slice_index text (n + m)) (sym is) ∙ occurs.reads m below)

    later : (k : ℕ) → s ≤ k → k < s + p → OccursAt text key k → (s < k) ⊎ (k ≤ s) → ⊥
    later k ge high occurs (inl gt) = nowhere_nearer text key s m p here.begins least k (omega (arith, gt)) high occurs
    later k ge high occurs (inr le) = not_here k (omega (arith, ge, le)) occurs

    go : (k : ℕ) → from ≤ k → k < s + p → OccursAt text key k → (k < s) ⊎ (s ≤ k) → ⊥
    go k low high occurs (inl lt) = here.before k low lt occurs
    go k low high occurs (inr ge) = later k ge high occurs (cases_lt s k)

-- all bytes of the key stand there
pub found_there : (text key : List ℕ) (from s m : ℕ) → IsCandidate text key from s m → length key ≤ m
    → FindsNeedle text key from (Some s)
found_there text key from s m here all = (
  record {
    low = here.low;
    high = omega (arith, here.begins.fits);
    before = here.before;
  },
  record {
    fits = omega (arith, here.begins.fits, here.begins.within, all);
    reads = λ k below. here.begins.reads k (omega (arith, below, all));
  },
)

-- the text ends before the key does
pub found_never : (text key : List ℕ) (from s m : ℕ) → IsCandidate text key from s m → m < length key
    → s + m ≡ length text → FindsNeedle text key from None
found_never text key from s m here below ended k low high occurs =
    here.before k low (omega (arith, occurs.fits, below, ended)) occurs

-- ---- bytes as they are compared

pub folded_length : (ci : Bool) (text : List ℕ) → length (folded ci text) ≡ length text
folded_length true text = length-map text to_ascii_lowercase
folded_length false text = refl

pub folded_at : (ci : Bool) (text : List ℕ) (k : ℕ) → k < length text
    → slice_index (folded ci text) k ≡ folded_byte ci (slice_index text k)
folded_at true text k below = get_or-map to_ascii_lowercase text k 0 0 below
folded_at false text k below = refl

-- no byte has been compared
pub begins_nowhere : (text key : List ℕ) → BeginsAt text key 0 0
begins_nowhere text key = record {
  fits = omega arith;
  within = omega arith;
  reads = λ k below. absurd (omega (arith, below));
}

-- a place whose byte differs from the key's first is none of the key
pub skipped : (ci : Bool) (text key : List ℕ) (place m n : ℕ) → place ≤ length text → 0 < length key → 0 ≡ m
    → n ≤ length (take (length text - place) (drop place text))
    → ((k : ℕ) → k < n → folded_byte ci (slice_index (take (length text - place) (drop place text)) k) ≢ slice_index key 0)
    → (from : ℕ) → IsCandidate (folded ci text) key from place m → IsCandidate (folded ci text) key from (place + n) m
skipped ci text key place m n le some none within others from here = record {
  low = omega (arith, here.low);
  begins = record {
    fits = omega (arith, folded_length ci text, below_end, none);
    within = here.begins.within;
    reads = λ k below. absurd (omega (arith, below, none));
  };
  before = λ k low high occurs. go k low high occurs (cases_lt k place);
}
  where
    below_end : place + n ≤ length text
    below_end = omega (arith, within, le, ap length (take_rest text place), length-drop place text)

    read : (k : ℕ) → slice_index (take (length text - place) (drop place text)) k ≡ slice_index text (place + k)
    read k = ap (λ l. slice_index l k) (take_rest text place) ∙ get_or-drop place text k 0

    other : (k : ℕ) → place ≤ k → k < place + n → folded_byte ci (slice_index text k) ≢ slice_index key 0
    other k ge high same =
        let sum : place + (k - place) ≡ k = omega (arith, ge) in
        others (k - place) (omega (arith, ge, high))
        (ap (folded_byte ci) (read (k - place) ∙ ap (λ j. slice_index text j) sum) ∙ same)

    go : (k : ℕ) → from ≤ k → k < place + n → OccursAt (folded ci text) key k → (k < place) ⊎ (place ≤ k) → ⊥
    go k low high occurs (inl lt) = here.before k low lt occurs
    go k low high occurs (inr ge) =
        let at : k + 0 ≡ k = omega arith in
        other k ge high
        (sym (ap (λ j. slice_index (folded ci text) j) at ∙ folded_at ci text k (omega (arith, high, below_end)))
        ∙ occurs.reads 0 some)
