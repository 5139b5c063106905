-- The versions of a reference that had additions, as the store of references keeps them: in a row,
-- in the order of their numbers.
use Rattle.std.specs.Prelude.{◌≡◌, ◌≢◌, ℕ, zero, suc, ◌+◌, ◌-◌, ◌*◌, ◌≤◌, ◌<◌, ◌==◌, Bool, List, [], ◌∷◌, ◌++◌, length, map, All, Option, Some, None, slice_get, if◌then◌else◌, ⊤, ◌⊎◌}
use Rattle.std.specs.List.{sum_by}
use Rattle.std.specs.Option.{option_map_or}
use Rattle.hx_text.specs.declared.kinds.By.{By}
use Rattle.hx_sample.specs.Find.{Entry}
use Rattle.hx_versions.specs.Versions.{empty_version, Version}
use Rattle.hx_versions.specs.Uses.{Use}
use Rattle.hx_versions.specs.declared.slots.Slots.{Slots}

-- A version that had additions: its number, the serial number of the entry that was added last, its
-- entries, and the methods and cases by which they can be searched.
pub record ShownVersion : Type 0 where
  pub number : ℕ
  pub serial : ℕ
  pub entries : List Entry
  pub ways : List (By × Bool)

-- ---- the store

-- what callers see of the store: a row for each reference, and how many slots of memory wait to be
-- given back
pub record StoreView : Type 0 where
  pub rows : List (List ShownVersion)
  pub waiting : ℕ

-- the row at a position
abbrev pub row_at : StoreView → ℕ → List ShownVersion
row_at store r = option_map_or (λ row. row) (slice_get store.rows r) []

-- the slots of a version: one of its own, and for each entry one and one for each way
abbrev pub version_slots : ShownVersion → ℕ
version_slots version = 1 + length version.entries * (1 + length version.ways)

-- those of all versions
abbrev pub row_slots : List ShownVersion → ℕ
row_slots row = sum_by version_slots row

abbrev pub kept_slots : List (List ShownVersion) → ℕ
kept_slots rows = sum_by row_slots rows

-- the slots that are in use, and those of them that wait
abbrev pub store_slots : StoreView → Slots
store_slots store = record {
  used = kept_slots store.rows + store.waiting;
  retired = store.waiting;
}

-- 1 where there are entries, and else 0
abbrev pub filled_by : List Entry → ℕ
filled_by [] = 0
filled_by (entry ∷ entries) = 1

abbrev pub filled_one : ShownVersion → ℕ
filled_one version = filled_by version.entries

-- the slots that wait from then on where the version of a number is cleared: all of its own, where
-- it has entries
abbrev pub cleared_slots : ℕ → List ShownVersion → ℕ
cleared_slots number [] = 0
cleared_slots number (version ∷ row) =
    if version.number == number then filled_one version * version_slots version
    else cleared_slots number row

-- ---- the list of all versions

-- the number that an entry was added last with, and the entries
abbrev pub version_in_row : ShownVersion → Version
version_in_row version = record { serial = version.serial; entries = version.entries }

-- the version of a number, to which nothing was added where it isn't in the row
abbrev pub version_numbered : ℕ → List ShownVersion → Version
version_numbered number [] = empty_version
version_numbered number (version ∷ row) =
    if version.number == number then version_in_row version else version_numbered number row

-- so many versions, from that of a number on
abbrev pub versions_from : ℕ → ℕ → List ShownVersion → List Version
versions_from number zero row = []
versions_from number (suc count) row =
    version_numbered number row ∷ versions_from (number + 1) count row

-- the versions from the first number to the last
abbrev pub versions_between : ℕ → ℕ → List ShownVersion → List Version
versions_between first last row = versions_from first (suc (last - first)) row

-- how many entries the versions have
abbrev pub total_count : List ShownVersion → ℕ
total_count row = sum_by (λ (version : ShownVersion). length version.entries) row

-- the entries of the first version, where it has the number
abbrev pub first_entries : ℕ → List ShownVersion → List Entry
first_entries number [] = []
first_entries number (version ∷ row) =
    if version.number == number then version.entries else []

-- ---- what holds of rows

-- the numbers rise, from the first number to the last
abbrev pub AreNumbered : ℕ → ℕ → List ShownVersion → Type 0
AreNumbered first last [] = ⊤
AreNumbered first last (version ∷ row) =
    (first ≤ version.number) × (version.number ≤ last)
    × AreNumbered (version.number + 1) last row

-- the version had additions, and has no more entries than these
abbrev pub IsCounted : ShownVersion → Type 0
IsCounted version = (0 < version.serial) × (length version.entries ≤ version.serial)

abbrev pub AreCounted : List ShownVersion → Type 0
AreCounted row = All IsCounted row

-- the entries can be searched in these ways; there may be none, and no way, as of a version that
-- was cleared
abbrev pub IsSearchedBy : List (By × Bool) → ShownVersion → Type 0
IsSearchedBy ways version =
    (version.ways ≡ ways) ⊎ ((version.ways ≡ []) × (version.entries ≡ []))

abbrev pub AreSearchedBy : List (By × Bool) → List ShownVersion → Type 0
AreSearchedBy ways row = All (IsSearchedBy ways) row

-- the methods and cases of uses
abbrev pub use_ways : List Use → List (By × Bool)
use_ways uses = map (λ (u : Use). (u.by, u.ci)) uses

-- ---- changes of one version

-- What the row is after a change of the version of a number, which is one from the first number to
-- the last: the others stay.
pub record ChangesVersion (first last number : ℕ) (change : Version → Version)
    (old new : List ShownVersion) : Type 0 where
  pub numbers : AreNumbered first last new
  pub changed : version_numbered number new ≡ change (version_numbered number old)
  pub others :
      (other : ℕ) → other ≢ number → version_numbered other new ≡ version_numbered other old

-- the same, for all first and last numbers that the versions have
abbrev pub Changes : ℕ → (Version → Version) → List ShownVersion → List ShownVersion → Type 0
Changes number change old new =
    (first last : ℕ) → AreNumbered first last old → first ≤ number → number ≤ last
    → ChangesVersion first last number change old new

-- the version with its number lowered by so much
abbrev pub lowered : ℕ → ShownVersion → ShownVersion
lowered by version = record version { number = version.number - by }

-- the version, with a change of its entries; its serial number stays
abbrev pub changed_entries : (List Entry → List Entry) → Version → Version
changed_entries change version = record version { entries = change version.entries }

-- the version with these as its last entries, of which the last has this serial number
abbrev pub with_last_entries : List Entry → ℕ → Version → Version
with_last_entries added serial version =
    record { serial = serial; entries = version.entries ++ added }

-- ---- versions that are dropped

-- their numbers are smaller
abbrev pub AreBelow : ℕ → List ShownVersion → Type 0
AreBelow number row = All (λ (version : ShownVersion). version.number < number) row

-- the first of them hasn't a smaller number
abbrev pub BeginsFrom : ℕ → List ShownVersion → Type 0
BeginsFrom number [] = ⊤
BeginsFrom number (version ∷ row) = number ≤ version.number

-- those of smaller numbers that stand first are dropped
pub record IsDropped (number : ℕ) (old new : List ShownVersion) : Type 0 where
  pub dropped : List ShownVersion
  pub parts : old ≡ dropped ++ new
  pub below : AreBelow number dropped
  pub rest : BeginsFrom number new
