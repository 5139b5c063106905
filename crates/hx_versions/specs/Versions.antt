-- What a version of a list is, and which of its entries a call speaks of.
use Rattle.std.specs.Prelude.{ℕ, suc, ◌==◌, Bool, List, [], ◌∷◌, if◌then◌else◌}
use Rattle.hx_sample.specs.Changes.{has_key}
use Rattle.hx_sample.specs.Find.{Entry}
use Rattle.hx_versions.specs.declared.choice.Choice.{Choice}
use Rattle.hx_versions.specs.declared.choice.Choice.TheVariants as choice

-- a version of a list: the serial number of the entry that was added last, 0 before the first, and
-- the entries
pub record Version : Type 0 where
  pub serial : ℕ
  pub entries : List Entry

-- a version to which nothing was added
abbrev pub empty_version : Version
empty_version = record { serial = 0; entries = [] }

-- the entry has the number
abbrev pub has_number : ℕ → Entry → Bool
has_number number entry = entry.number == number

-- an entry is one of those that a call speaks of
abbrev pub is_chosen : Choice → Entry → Bool
is_chosen (choice.Key key) = has_key key.now
is_chosen (choice.Number number) = has_number number

-- how many entries a test chooses
abbrev pub chosen_count : (Entry → Bool) → List Entry → ℕ
chosen_count test [] = 0
chosen_count test (entry ∷ entries) =
    if test entry then suc (chosen_count test entries) else chosen_count test entries
