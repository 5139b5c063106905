-- Versions in a row by their numbers, as the list of all versions.
use Rattle.std.proofs.Common.{◌≡◌, ◌≢◌, ℕ, zero, suc, ◌+◌, ◌-◌, ◌<◌, ◌≤◌, List, [], ◌∷◌, ◌++◌, length, drop, refl, sym, ap, ◌∙◌, arith, inl, inr}
use Rattle.std.specs.Prelude.{Some, slice_get, slice_set, sum, map}
use Rattle.std.proofs.lemmas.List.Elements.{All-head, All-tail}
use Rattle.std.proofs.lemmas.List.Sums.{sum_by-cons}
use Rattle.std.proofs.lemmas.Bool.{ne_eqb, eq-eqb, cases_eq}
use Rattle.hx_refs.specs.References.{changed_at, empty_version, AreEmpty, Version}
use Rattle.hx_versions.specs.Rows.{first_entries, total_count, version_numbered, versions_between, versions_from, AreBelow, AreCounted, AreNumbered, BeginsFrom, ChangesVersion, IsCounted, ShownVersion}

-- ---- numbers

-- a greater last number
pub numbered_to : (first last high : ℕ) (row : List ShownVersion) → last ≤ high → AreNumbered first last row → AreNumbered first high row
numbered_to first last high [] le all = tt
numbered_to first last high (v ∷ row) le all =
    (all.0, omega (arith, all.1), numbered_to (v.number + 1) last high row le all.2)

-- no version has a number below these
pub none_below : (number first last : ℕ) (row : List ShownVersion) → AreNumbered first last row → number < first
    → version_numbered number row ≡ empty_version
none_below number first last [] all below = refl
none_below number first last (v ∷ row) all below =
    rw (ne_eqb v.number number (λ same. omega (arith, all.0)))
    (none_below number (v.number + 1) last row all.2 (omega (arith, all.0)))

-- nor one above them
pub none_above : (number first last : ℕ) (row : List ShownVersion) → AreNumbered first last row → last < number
    → version_numbered number row ≡ empty_version
none_above number first last [] all above = refl
none_above number first last (v ∷ row) all above =
    rw (ne_eqb v.number number (λ same. omega (arith, all.1)))
    (none_above number (v.number + 1) last row all.2 above)

-- the version of the first number stands first
pub first_is_numbered : (number last : ℕ) (row : List ShownVersion) → AreNumbered number last row
    → first_entries number row ≡ (version_numbered number row).entries
first_is_numbered number last [] all = refl
first_is_numbered number last (v ∷ row) all = elim (cases_eq v.number number) [
  | inl here ↦ rw (eq-eqb v.number number here) refl
  | inr above ↦
      rw (ne_eqb v.number number above, none_below number (v.number + 1) last row all.2 (omega (arith, all.0)))
      refl
]

-- ---- the list of all versions

-- two rows give the same versions
pub same_versions : (number count : ℕ) (old new : List ShownVersion)
    → ((other : ℕ) → number ≤ other → other < number + count → version_numbered other new ≡ version_numbered other old)
    → versions_from number count new ≡ versions_from number count old
same_versions number zero old new same = refl
same_versions number (suc count) old new same =
    rw (same number (omega arith) (omega arith), same_versions (number + 1) count old new (λ other low high. same other (omega arith) (omega arith)))
    refl

-- the version at a place
pub version_at : (number count place : ℕ) (row : List ShownVersion) → place < count
    → slice_get (versions_from number count row) place ≡ Some (version_numbered (number + place) row)
version_at number zero place row within = absurd (omega arith)
version_at number (suc count) zero row within =
    let same : number + 0 ≡ number = omega arith in rw same refl
version_at number (suc count) (suc place) row within =
    let same : number + suc place ≡ number + 1 + place = omega arith in
    rw same (version_at (number + 1) count place row (omega arith))

-- one version set
pub set_version : (number count place : ℕ) (x : Version) (old new : List ShownVersion) → place < count
    → version_numbered (number + place) new ≡ x
    → ((other : ℕ) → other ≢ number + place → version_numbered other new ≡ version_numbered other old)
    → versions_from number count new ≡ slice_set (versions_from number count old) place x
set_version number zero place x old new within is others = absurd (omega arith)
set_version number (suc count) zero x old new within is others =
    let same : number + 0 ≡ number = omega arith in
    rw (rw same at is, same_versions (number + 1) count old new (λ other low high. others other (λ e. omega arith)))
    refl
set_version number (suc count) (suc place) x old new within is others =
    let same : number + suc place ≡ number + 1 + place = omega arith in
    rw (others number (λ e. omega arith), set_version (number + 1) count place x old new (omega arith) (rw same at is) (λ other e. others other (λ d. e (d ∙ same))))
    refl

-- a change of one version
pub changed_between : (first last number : ℕ) (change : Version → Version) (old new : List ShownVersion) → first ≤ number → number ≤ last
    → ChangesVersion first last number change old new
    → versions_between first last new ≡ changed_at (number - first) change (versions_between first last old)
changed_between first last number change old new low high changes =
    let same : first + (number - first) ≡ number = omega arith in
    rw (version_at first (suc (last - first)) (number - first) old (omega arith), same)
    (set_version first (suc (last - first)) (number - first) (change (version_numbered number old)) old new (omega arith)
    (rw same changes.changed) (λ other e. changes.others other (λ d. e (d ∙ sym same))))

-- all versions but so many
pub drop_versions : (number count n : ℕ) (row : List ShownVersion) → n ≤ count
    → drop n (versions_from number count row) ≡ versions_from (number + n) (count - n) row
drop_versions number count zero row few =
    let same : number + 0 ≡ number = omega arith in
    let all : count - 0 ≡ count = omega arith in
    rw (same, all) refl
drop_versions number zero (suc n) row few = absurd (omega arith)
drop_versions number (suc count) (suc n) row few =
    let same : number + suc n ≡ number + 1 + n = omega arith in
    let left : suc count - suc n ≡ count - n = omega arith in
    rw (same, left) (drop_versions (number + 1) count n row (omega arith))

-- one version more
pub more_versions : (number count : ℕ) (row : List ShownVersion)
    → versions_from number (suc count) row ≡ versions_from number count row ++ version_numbered (number + count) row ∷ []
more_versions number zero row = let same : number + 0 ≡ number = omega arith in rw same refl
more_versions number (suc count) row =
    let same : number + suc count ≡ number + 1 + count = omega arith in
    rw same (ap (λ versions. version_numbered number row ∷ versions) (more_versions (number + 1) count row))

-- one more is prepared
pub prepared_between : (first last : ℕ) (row : List ShownVersion) → first ≤ last → AreNumbered first last row
    → versions_between first (last + 1) row ≡ versions_between first last row ++ empty_version ∷ []
prepared_between first last row le all =
    let more : last + 1 - first ≡ suc (last - first) = omega arith in
    let next : first + suc (last - first) ≡ last + 1 = omega arith in
    rw (more, more_versions first (suc (last - first)) row, next, none_above (last + 1) first last row all (omega arith)) refl

-- ---- versions that are dropped

-- the number of a version is smaller
abbrev pub is_below : ℕ → ShownVersion → Type 0
is_below number version = version.number < number

-- the rest has the numbers from that one on
pub dropped_numbers : (number first last : ℕ) (dropped row : List ShownVersion) → AreNumbered first last (dropped ++ row)
    → AreBelow number dropped → BeginsFrom number row → AreNumbered number last row
dropped_numbers number first last [] [] all below from = tt
dropped_numbers number first last [] (v ∷ row) all below from = (from, all.1, all.2)
dropped_numbers number first last (w ∷ dropped) row all below from =
    dropped_numbers number (w.number + 1) last dropped row all.2 (All-tail (is_below number) w dropped below) from

pub dropped_others : (number other : ℕ) (dropped row : List ShownVersion) → AreBelow number dropped → number ≤ other
    → version_numbered other row ≡ version_numbered other (dropped ++ row)
dropped_others number other [] row below above = refl
dropped_others number other (w ∷ dropped) row below above =
    rw (ne_eqb w.number other (λ same. omega (arith, All-head (is_below number) w dropped below)))
    (dropped_others number other dropped row (All-tail (is_below number) w dropped below) above)

-- a version becomes the first
pub committed_between : (number first last : ℕ) (dropped row : List ShownVersion) → AreBelow number dropped
    → first ≤ number → number ≤ last
    → versions_between number last row ≡ drop (number - first) (versions_between first last (dropped ++ row))
committed_between number first last dropped row below low high =
    let here : first + (number - first) ≡ number = omega arith in
    let left : suc (last - first) - (number - first) ≡ suc (last - number) = omega arith in
    rw (drop_versions first (suc (last - first)) (number - first) (dropped ++ row) (omega arith), here, left)
    (same_versions number (suc (last - number)) (dropped ++ row) row (λ other above within. dropped_others number other dropped row below above))

-- no more are dropped than there are numbers below
pub few_dropped : (number first last : ℕ) (dropped row : List ShownVersion) → AreNumbered first last (dropped ++ row)
    → AreBelow number dropped → first ≤ number → length dropped + first ≤ number
few_dropped number first last [] row all below le = omega (arith, le)
few_dropped number first last (w ∷ dropped) row all below le =
    let here = All-head (is_below number) w dropped below in
    let rest = few_dropped number (w.number + 1) last dropped row all.2 (All-tail (is_below number) w dropped below) (omega (arith, here)) in
    omega (arith, rest, all.0)

-- ---- counts

pub entries_counted : (number count last : ℕ) (row : List ShownVersion) → AreNumbered number last row → last < number + count
    → sum (map (λ v. length v.entries) (versions_from number count row)) ≡ total_count row
entries_counted number zero last [] all within = refl
entries_counted number zero last (w ∷ row) all within = absurd (omega (arith, all.0, all.1))
entries_counted number (suc count) last [] all within =
    entries_counted (number + 1) count last [] tt (omega arith)
entries_counted number (suc count) last (w ∷ row) all within = elim (cases_eq w.number number) [
  | inl here ↦
      let later = same_versions (number + 1) count row (w ∷ row) (λ other low high. rw (ne_eqb w.number other (λ f. omega arith)) refl) in
      let rest : AreNumbered (number + 1) last row = rw here at all.2 in
      rw (eq-eqb w.number number here, later, sum_by-cons (λ (v : ShownVersion). length v.entries) w row)
      (sum_by-cons (λ n. n) (length w.entries) (map (λ v. length v.entries) (versions_from (number + 1) count row))
      ∙ ap (λ n. length w.entries + n) (entries_counted (number + 1) count last row rest (omega arith)))
  | inr above ↦
      let none = none_below number (w.number + 1) last row all.2 (omega (arith, all.0)) in
      rw (ne_eqb w.number number above, none)
      (entries_counted (number + 1) count last (w ∷ row) (omega (arith, all.0, above), all.1, all.2) (omega arith))
]

-- a version has no more entries than additions
pub counted_here : (number : ℕ) (row : List ShownVersion) → AreCounted row
    → length (version_numbered number row).entries ≤ (version_numbered number row).serial
counted_here number [] counted = omega arith
counted_here number (v ∷ row) counted = elim (cases_eq v.number number) [
  | inl here ↦ rw (eq-eqb v.number number here) (All-head IsCounted v row counted).1
  | inr apart ↦ rw (ne_eqb v.number number apart) (counted_here number row (All-tail IsCounted v row counted))
]

-- ---- versions to which nothing was added

-- each of the versions has no entries
pub all_empty : (number count : ℕ) (row : List ShownVersion) → AreEmpty (versions_from number count row)
    → (other : ℕ) → number ≤ other → other < number + count → version_numbered other row ≡ empty_version
all_empty number zero row empty other low high = absurd (omega arith)
all_empty number (suc count) row empty other low high = elim (cases_eq other number) [
  | inl here ↦ rw here empty.0
  | inr above ↦ all_empty (number + 1) count row empty.1 other (omega arith) (omega arith)
]

-- then no version is in the row
pub no_row : (first last : ℕ) (row : List ShownVersion) → first ≤ last → AreNumbered first last row → AreCounted row
    → AreEmpty (versions_between first last row) → row ≡ []
no_row first last [] le all counted empty = refl
no_row first last (v ∷ row) le all counted empty =
    let none = all_empty first (suc (last - first)) (v ∷ row) empty v.number all.0 (omega (arith, all.1, le)) in
    let serial = ap (λ (x : Version). x.serial) (rw (eq-eqb v.number v.number refl) at none) in
    absurd (omega (arith, (All-head IsCounted v row counted).0, serial))
