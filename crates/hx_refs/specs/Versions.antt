-- Which versions a reference has, what holds of their entries, and what an addition makes of one.
use Rattle.std.specs.Prelude.{ℕ, ◌+◌, ◌^◌, ◌<◌, ◌≤◌, List, ◌++◌, length}
use Rattle.hx_refs.specs.Additions.{new_entries, Pair}
use Rattle.hx_refs.specs.Numbers.{HasRisingNumbers}
use Rattle.hx_refs.specs.References.{span, Reference, Version}
use Rattle.hx_refs.specs.VersionNumbers.{ahead, number_ahead}
use Rattle.hx_versions.specs.Rows.{version_numbered, ShownVersion}

-- the reference has a version of the number
abbrev pub HasVersion : Reference → ℕ → Type 0
HasVersion reference number =
    (number < 2 ^ 32) × (ahead reference.curr number ≤ span reference)

-- The numbers of the entries of each version rise. The first version has the number `first` in the
-- row, and `curr` for callers; the last is so far ahead.
abbrev pub AreRising : (first curr last : ℕ) → List ShownVersion → Type 0
AreRising first curr last row =
    (distance : ℕ) → distance ≤ last
    → HasRisingNumbers (number_ahead curr distance) (version_numbered (first + distance) row)

-- a version, with the pairs as its last entries; `number` is its number
abbrev pub with_new_entries : ℕ → List Pair → Version → Version
with_new_entries number pairs version = record {
  serial = version.serial + length pairs;
  entries = version.entries ++ new_entries number version.serial pairs;
}
