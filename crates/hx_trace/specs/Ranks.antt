-- Which of the entries that hit a value goes before the others, by the rank of its key (HAProxy
-- configuration manual 2.4, sections 7.1 and 7.3.1, `map`).
use Rattle.std.specs.Prelude.{ℕ, ◌==◌, nat_lt, Bool, false, ◌&&◌, ◌||◌, not, List, ◌∷◌, length, Option, None, Some, if◌then◌else◌}
use Rattle.std.specs.List.{find, list_all}
use Rattle.std.specs.Option.{option_map_or}
use Rattle.hx_text.specs.declared.kinds.By.{By}
use Rattle.hx_text.specs.declared.kinds.By.TheVariants as by
use Rattle.hx_text.specs.Network.{net_of}
use Rattle.hx_sample.specs.declared.sample.Value.{Value}
use Rattle.hx_sample.specs.declared.sample.Value.TheVariants as value
use Rattle.hx_sample.specs.Find.{nearness, prefix_width, Entry, hitting_entries}
use Rattle.hx_trace.specs.declared.ranks.Rank.{Rank}

-- the rank is lower than another: it is less near, or as near and shorter
abbrev pub is_lower : Rank → Rank → Bool
is_lower rank other =
    nat_lt rank.near other.near || (rank.near == other.near && nat_lt rank.long other.long)

-- The rank of a key among those that hit a value. By `beg` it is as long as the key, unless case is
-- ignored. By `ip` it is as near as the network that the key writes is to the address, and as long
-- as its prefix. By any other method all ranks are the same.
abbrev pub rank_of : By → Bool → Value → List ℕ → Rank
rank_of by.Beg false v key = record { near = 0; long = length key }
rank_of by.Ip ci (value.Ip ip) key = record {
  near = option_map_or (nearness ip) (net_of key) 0;
  long = option_map_or prefix_width (net_of key) 0;
}
rank_of _ ci v key = record { near = 0; long = 0 }

-- the first of the items whose rank is lower than that of none
abbrev pub first_highest : {A : Type 0} → (A → Rank) → List A → Option A
first_highest rank xs = find (λ x. list_all (λ y. not (is_lower (rank x) (rank y))) xs) xs

-- of the entries whose keys hit a value, the first of the highest rank
abbrev pub highest_entry : By → Bool → List Entry → Value → Option Entry
highest_entry method ci entries v =
    first_highest (λ entry. rank_of method ci v entry.key) (hitting_entries method ci entries v)

-- ---- steps towards these, for proofs

-- the items with one before them, if there is one
abbrev pub with_best : {A : Type 0} → Option A → List A → List A
with_best None xs = xs
with_best (Some best) xs = best ∷ xs

-- of the best so far and the next item, that which stands for both
abbrev pub better_of : {A : Type 0} → (A → Rank) → Option A → A → A
better_of rank None x = x
better_of rank (Some best) x = if is_lower (rank best) (rank x) then x else best
