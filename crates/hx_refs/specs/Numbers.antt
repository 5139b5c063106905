-- What holds of references at any time: how their versions and the numbers of their entries go on,
-- and their own numbers and files (HAProxy management guide 2.4, section 9.3, `show acl`).
use Rattle.std.specs.Prelude.{◌≡◌, ◌≢◌, ℕ, ◌+◌, ◌*◌, ◌^◌, ◌≤◌, ◌<◌, List, [], ◌∷◌, length, slice_get, Option, Some, option_map, IfSome, ⊤}
use Rattle.std.specs.Option.{option_and_then}
use Rattle.hx_sample.specs.Find.{Entry}
use Rattle.hx_refs.specs.declared.limits.Limits.{Limits}
use Rattle.hx_refs.specs.References.{span, version_of, Reference, References, Version}
use Rattle.hx_refs.specs.VersionNumbers.{ahead}

-- ---- versions

-- the numbers of the first and of the last version have 32 bits
abbrev pub HasShortNumbers : Reference → Type 0
HasShortNumbers reference = (reference.curr < 2 ^ 32) × (reference.next < 2 ^ 32)

-- the versions of a reference are those from the one that is searched to the last that was prepared
pub record HasVersionsInOrder (reference : Reference) : Type 0 where
  pub short : HasShortNumbers reference
  pub count : length reference.versions ≡ span reference + 1

-- the versions of the reference at a position are in order, and no more of them may be prepared
-- than there are numbers
abbrev pub HasRoom : References → ℕ → Type 0
HasRoom refs r =
    (refs.limits.versions < 2 ^ 32) × IfSome (slice_get refs.references r) HasVersionsInOrder

-- the number isn't that of the version of a reference that is searched; the versions are in order,
-- and no more of them may be prepared than there are numbers
pub record IsAnotherVersion (limits : Limits) (number : ℕ) (reference : Reference) : Type 0 where
  pub other : number ≢ reference.curr
  pub order : HasVersionsInOrder reference
  pub few : limits.versions < 2 ^ 32

-- the version of the number isn't the one of the reference at a position that is searched: it is
-- prepared for later, was dropped, or never was
abbrev pub IsNotSearched : References → ℕ → ℕ → Type 0
IsNotSearched refs r number =
    IfSome (slice_get refs.references r) (IsAnotherVersion refs.limits number)

-- the version of a number isn't behind another of the reference: it is at least as far ahead of that
-- which is searched
abbrev pub IsNotBehind : ℕ → ℕ → Reference → Type 0
IsNotBehind other number reference =
    HasShortNumbers reference × (ahead reference.curr other ≤ ahead reference.curr number)

-- ---- entries

-- the numbers of the entries rise: the first is above `least`, and the last at most `last`
abbrev pub RiseBetween : ℕ → ℕ → List Entry → Type 0
RiseBetween least last [] = ⊤
RiseBetween least last (entry ∷ entries) =
    (least < entry.number) × (entry.number ≤ last) × RiseBetween entry.number last entries

-- The numbers of the entries in the version of a number rise, and each is that of the version times
-- 2^32 and a serial number, from 1 to that of the entry that was added last.
abbrev pub HasRisingNumbers : ℕ → Version → Type 0
HasRisingNumbers number version =
    RiseBetween (number * 2 ^ 32) (number * 2 ^ 32 + version.serial) version.entries

-- so it is in each version of a reference
abbrev pub NumbersRise : Reference → Type 0
NumbersRise reference = (number : ℕ)
    → IfSome (version_of reference (Some number)) (HasRisingNumbers number)

-- ---- references

-- the number of the reference at a position, and its file
abbrev pub number_at : List Reference → ℕ → Option ℕ
number_at references r = option_map (λ reference. reference.id) (slice_get references r)

abbrev pub file_at : List Reference → ℕ → Option (List ℕ)
file_at references r = option_and_then (λ reference. reference.file) (slice_get references r)

-- no two references have the same number, and no two the same file
pub record HaveOwnNames (references : List Reference) : Type 0 where
  pub numbers : (r other number : ℕ) → number_at references r ≡ Some number
      → number_at references other ≡ Some number → r ≡ other
  pub files : (r other : ℕ) (file : List ℕ) → file_at references r ≡ Some file
      → file_at references other ≡ Some file → r ≡ other
