-- How many slots of memory a search among the entries of a version reads, at most.
use Rattle.std.specs.Prelude.{ℕ, ◌+◌, ◌*◌, Bool, List, map}
use Rattle.hx_text.specs.declared.kinds.By.{By}
use Rattle.hx_sample.specs.declared.sample.Value.{Value}
use Rattle.hx_sample.specs.Find.{Entry}
use Rattle.hx_index.specs.Items.{Item}
use Rattle.hx_index.specs.Index.{listed_count, tree_steps}

-- the key of an entry as a pattern of an index
abbrev pub key_item : By → Bool → Entry → Item
key_item method ci entry = record {
  node = 0;
  entry = 0;
  pattern = record { by = method; ci = ci; text = entry.key };
}

-- the most steps of a search for a value among entries: those of an index, and three more
abbrev pub search_steps : By → Bool → List Entry → Value → ℕ
search_steps method ci entries v =
    tree_steps method ci v + 2 * listed_count (map (key_item method ci) entries) + 3
