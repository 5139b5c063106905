-- Entries that are ready to be appended to a version.
use Rattle.std.specs.Prelude.{◌≡◌, ℕ, Bool, List, length, map, All}
use Rattle.hx_text.specs.declared.kinds.By.{By}
use Rattle.hx_match.specs.Patterns.{PatternText}
use Rattle.hx_sample.specs.Find.{Entry}
use Rattle.hx_versions.specs.declared.content.NewEntry.{NewEntry}

-- a key was prepared for each of these ways
abbrev pub prepared_patterns : List ℕ → List (By × Bool) → List PatternText
prepared_patterns key ways = map (λ way. record { by = way.0; ci = way.1; text = key }) ways

-- an entry without what was prepared for it
abbrev pub added_entry : NewEntry → Entry
added_entry new = record { number = new.number; key = new.key; value = new.value }

abbrev pub added_entries : List NewEntry → List Entry
added_entries added = map added_entry added

-- the key was prepared for each of these methods and cases, and there is a place for as many nodes
pub record IsReadyFor (ways : List (By × Bool)) (new : NewEntry) : Type 0 where
  pub keys : new.prepared.items ≡ prepared_patterns new.key ways
  pub numbers : length new.nodes ≡ length ways

abbrev pub AreReadyFor : List (By × Bool) → List NewEntry → Type 0
AreReadyFor ways added = All (IsReadyFor ways) added
