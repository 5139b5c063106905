-- The entries of a version that an iterator has left.
use Rattle.std.specs.Prelude.{◌≡◌, ℕ, List, length, Option, None}
use Rattle.std.specs.List.{filter_map}
use Rattle.hx_pool.specs.Chain.{first_or, links_at, numbers_from, AreLinked}
use Rattle.hx_sample.specs.Find.{Entry}
use Rattle.hx_versions.specs.StoredEntries.{entry_links}
use Rattle.hx_versions.specs.Contents.{entry_in, EntryPool}

-- so many entries along the links, from a slot on
abbrev pub rest_entries : EntryPool → Option ℕ → ℕ → List Entry
rest_entries entries next left =
    filter_map (entry_in entries) (numbers_from (links_at entry_links entries) left next)

-- the links lead from the slot on through so many slots, the last of the chain among them
pub record IsRest (entries : EntryPool) (next : Option ℕ) (left : ℕ) : Type 0 where
  pub slots : List ℕ
  pub before : Option ℕ
  pub linked : AreLinked (links_at entry_links entries) before slots None
  pub first : next ≡ first_or slots None
  pub count : left ≡ length slots
