-- Keys that are searched for in texts, and after how many bytes their beginnings repeat.
use Rattle.std.specs.Prelude.{◌≡◌, ℕ, ◌+◌, ◌-◌, ◌<◌, ◌≤◌, Bool, true, List, length, take, drop, reverse, slice_index, if◌then◌else◌}
use Rattle.std.specs.Char.{to_ascii_lowercase}
use Rattle.memchr.specs.Critical.{IsPeriod, NoPeriodBelow}
use Rattle.memchr.specs.Find.{Nowhere, OccursAt}
use Rattle.hx_sample.specs.Keys.{is_ended}
use Rattle.hx_match.specs.declared.needle.Needle.{Needle}

-- a byte as it is compared
abbrev pub folded_byte : Bool → ℕ → ℕ
folded_byte ci byte = if ci then to_ascii_lowercase byte else byte

-- ---- periods

-- the first m bytes of the key repeat after p bytes and after no fewer; p is one where m is zero
pub record IsLeastPeriod (key : List ℕ) (m p : ℕ) : Type 0 where
  pub some : 0 < p
  pub within : p ≤ m - 1 + 1
  pub periodic : IsPeriod (slice_index key) m p
  pub least : NoPeriodBelow (slice_index key) m p

-- these are least periods: of no byte of the key, of its first, of its first two and so on
abbrev pub AreLeastPeriods : List ℕ → List ℕ → Type 0
AreLeastPeriods key periods =
    (m : ℕ) → m < length periods → IsLeastPeriod key m (slice_index periods m)

-- these are some of them, and the last is p
pub record AreFirstPeriods (key periods : List ℕ) (p : ℕ) : Type 0 where
  pub some : 0 < length periods
  pub within : length periods ≤ length key + 1
  pub each : AreLeastPeriods key periods
  pub last : IsLeastPeriod key (length periods - 1) p

-- these are all of them
pub record ArePeriods (key periods : List ℕ) : Type 0 where
  pub count : length periods ≡ length key + 1
  pub each : AreLeastPeriods key periods

-- the first m bytes of the key repeat after p bytes, and the first m + 1 after no fewer than p
pub record MayBePeriod (key : List ℕ) (m p : ℕ) : Type 0 where
  pub some : 0 < p
  pub within : p ≤ m + 1
  pub periodic : IsPeriod (slice_index key) m p
  pub least : NoPeriodBelow (slice_index key) (m + 1) p

-- the needle keeps the periods of its bytes
abbrev pub HasPeriods : Needle → Type 0
HasPeriods needle = ArePeriods needle.bytes.items needle.periods.items

-- the needle is that of the key
pub record IsNeedle (key : List ℕ) (needle : Needle) : Type 0 where
  pub is : needle.bytes.items ≡ key
  pub periods : HasPeriods needle

-- ---- places

-- the first m bytes of the key stand in the text from place s on
pub record BeginsAt (text key : List ℕ) (s m : ℕ) : Type 0 where
  pub fits : s + m ≤ length text
  pub within : m ≤ length key
  pub reads : (k : ℕ) → k < m → slice_index text (s + k) ≡ slice_index key k

-- they do, and the key stands at no place from `from` up to s
pub record IsCandidate (text key : List ℕ) (from s m : ℕ) : Type 0 where
  pub low : from ≤ s
  pub begins : BeginsAt text key s m
  pub before : Nowhere (OccursAt text key) from s

-- the part stands at place k between delimiters or ends of the text
pub record StandsAt (is_delim : ℕ → Bool) (text part : List ℕ) (k : ℕ) : Type 0 where
  pub occurs : OccursAt text part k
  pub begins : is_ended is_delim (reverse (take k text)) ≡ true
  pub ends : is_ended is_delim (drop (k + length part) text) ≡ true

-- the first m bytes of the part stand from place s on, and the part at no place up to there
pub record IsComponentCandidate (is_delim : ℕ → Bool) (text part : List ℕ) (s m : ℕ) : Type 0 where
  pub begins : BeginsAt text part s m
  pub before : Nowhere (StandsAt is_delim text part) 0 s
