-- The numbers of entries rise, and go on rising after changes.
use Rattle.std.proofs.Common.{◌≡◌, ℕ, ◌+◌, ◌-◌, ◌*◌, ◌^◌, ◌<◌, ◌≤◌, Bool, List, [], ◌∷◌, ◌++◌, length, map, refl, sym, ap, subst, ◌∙◌, arith, inl, inr}
use Rattle.std.proofs.lemmas.Bool.{cases_Bool, cases_eq, cases_lt}
use Rattle.hx_sample.specs.Changes.{with_value, without_chosen}
use Rattle.hx_sample.specs.Find.{Entry}
use Rattle.hx_refs.specs.Additions.{new_entries, Pair}
use Rattle.hx_refs.specs.Numbers.{HasRisingNumbers, RiseBetween}
use Rattle.hx_refs.specs.References.{Version}
use Rattle.hx_versions.specs.Rows.{changed_entries, lowered, version_numbered, AreBelow, AreNumbered, ChangesVersion, ShownVersion}
use Rattle.hx_refs.specs.VersionNumbers.{number_ahead}
use Rattle.hx_refs.specs.Versions.{with_new_entries, AreRising}
use Rattle.hx_refs.proofs.LoweredLemmas.{lowered_version}
use Rattle.hx_refs.proofs.VersionLemmas.{dropped_others, none_above}
use Rattle.hx_refs.proofs.VersionNumberLemmas.{number_on}

-- ---- lists of entries

rise_from : (low least last : ℕ) (entries : List Entry) → low ≤ least → RiseBetween least last entries
    → RiseBetween low last entries
rise_from low least last [] le rise = tt
rise_from low least last (entry ∷ entries) le rise = (omega (arith, rise.0, le), rise.1, rise.2)

-- entries that are removed
rise_without : (test : Entry → Bool) (least last : ℕ) (entries : List Entry) → RiseBetween least last entries
    → RiseBetween least last (without_chosen test entries)
rise_without test least last [] rise = tt
rise_without test least last (entry ∷ entries) rise =
    let rest = rise_without test entry.number last entries rise.2 in
    elim (cases_Bool (test entry)) [
      | inl chosen ↦ rw chosen (rise_from least entry.number last (without_chosen test entries) (omega (arith, rise.0)) rest)
      | inr stays ↦ rw stays (rise.0, rise.1, rest)
    ]

-- values that are changed
same_number : (test : Entry → Bool) (value : List ℕ) (entry : Entry) → (with_value test value entry).number ≡ entry.number
same_number test value entry = elim (cases_Bool (test entry)) [
  | inl chosen ↦ rw chosen refl
  | inr stays ↦ rw stays refl
]

rise_with : (test : Entry → Bool) (value : List ℕ) (least last : ℕ) (entries : List Entry) → RiseBetween least last entries
    → RiseBetween least last (map (with_value test value) entries)
rise_with test value least last [] rise = tt
rise_with test value least last (entry ∷ entries) rise =
    rw (same_number test value entry)
    (rise.0, rise.1, rise_with test value entry.number last entries rise.2)

-- entries that are added
rise_on : (least middle last : ℕ) (entries more : List Entry) → least ≤ middle → middle ≤ last
    → RiseBetween least middle entries → RiseBetween middle last more → RiseBetween least last (entries ++ more)
rise_on least middle last [] more low high first second = rise_from least middle last more low second
rise_on least middle last (entry ∷ entries) more low high first second =
    (first.0, omega (arith, first.1, high), rise_on entry.number middle last entries more first.1 high first.2 second)

new_rise : (number serial last : ℕ) (pairs : List Pair) → last ≡ number * 2 ^ 32 + (serial + length pairs)
    → RiseBetween (number * 2 ^ 32 + serial) last (new_entries number serial pairs)
new_rise number serial last [] is = tt
new_rise number serial last (pair ∷ pairs) is =
    (omega arith, omega (arith, is), new_rise number (serial + 1) last pairs (omega (arith, is)))

-- ---- versions

pub rising_added : (number : ℕ) (pairs : List Pair) (version : Version) → HasRisingNumbers number version
    → HasRisingNumbers number (with_new_entries number pairs version)
rising_added number pairs version rise =
    rise_on (number * 2 ^ 32) (number * 2 ^ 32 + version.serial) (number * 2 ^ 32 + (version.serial + length pairs))
    version.entries (new_entries number version.serial pairs) (omega arith) (omega arith) rise
    (new_rise number version.serial (number * 2 ^ 32 + (version.serial + length pairs)) pairs refl)

pub rising_without : (number : ℕ) (test : Entry → Bool) (version : Version) → HasRisingNumbers number version
    → HasRisingNumbers number (changed_entries (without_chosen test) version)
rising_without number test version rise =
    rise_without test (number * 2 ^ 32) (number * 2 ^ 32 + version.serial) version.entries rise

pub rising_with : (number : ℕ) (test : Entry → Bool) (value : List ℕ) (version : Version) → HasRisingNumbers number version
    → HasRisingNumbers number (changed_entries (map (with_value test value)) version)
rising_with number test value version rise =
    rise_with test value (number * 2 ^ 32) (number * 2 ^ 32 + version.serial) version.entries rise

-- ---- the versions in a row

pub rising_after : (low high first curr last place : ℕ) (change : Version → Version) (old new : List ShownVersion)
    → ChangesVersion low high (first + place) change old new → AreRising first curr last old
    → HasRisingNumbers (number_ahead curr place) (change (version_numbered (first + place) old)) → AreRising first curr last new
rising_after low high first curr last place change old new changes rising here distance within =
    elim (cases_eq distance place) [
      | inl same ↦ rw (same, changes.changed) here
      | inr apart ↦
          rw (changes.others (first + distance) (λ e. apart (omega (arith, e)))) (rising distance within)
    ]

-- one version more
pub rising_prepared : (first curr last : ℕ) (row : List ShownVersion) → AreNumbered first (first + last) row
    → AreRising first curr last row → AreRising first curr (last + 1) row
rising_prepared first curr last row all rising distance within = elim (cases_lt last distance) [
  | inl past ↦ rw (none_above (first + distance) first (first + last) row all (omega (arith, past))) tt
  | inr old ↦ rising distance old
]

-- numbers in the row are lowered
pub rising_lowered : (by first curr last : ℕ) (row : List ShownVersion) → by ≤ first → AreNumbered first (first + last) row
    → AreRising first curr last row → AreRising (first - by) curr last (map (lowered by) row)
rising_lowered by first curr last row le all rising distance within =
    let same : first - by + distance ≡ first + distance - by = omega (arith, le) in
    rw (same, lowered_version by first (first + last) (first + distance) row le all (omega (arith, le)))
    (rising distance within)

-- those that come before are dropped
pub rising_dropped : (first curr last new rest place : ℕ) (dropped row : List ShownVersion) → AreBelow (first + place) dropped
    → curr < 2 ^ 32 → last < 2 ^ 32 → new ≡ number_ahead curr place → place + rest ≡ last
    → AreRising first curr last (dropped ++ row) → AreRising (first + place) new rest row
rising_dropped first curr last new rest place dropped row below fits small is parts rising distance within =
    let other : first + (place + distance) ≡ first + place + distance = omega arith in
    let number : number_ahead curr (place + distance) ≡ number_ahead new distance =
    sym (ap (λ n. number_ahead n distance) is ∙ number_on curr place distance fits (omega (arith, within, parts, small))) in
    rw (dropped_others (first + place) (first + place + distance) dropped row below (omega arith))
    (subst (λ n. HasRisingNumbers n (version_numbered (first + place + distance) (dropped ++ row))) number
    (subst (λ m. HasRisingNumbers (number_ahead curr (place + distance)) (version_numbered m (dropped ++ row))) other
    (rising (place + distance) (omega (arith, within, parts)))))
