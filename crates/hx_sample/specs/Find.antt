-- Which entry of a list is found for a value (HAProxy configuration manual 2.4, sections 7.1 and
-- 7.3.1, `map`).
use Rattle.std.specs.Prelude.{ℕ, max, ◌==◌, Bool, false, List, [], ◌∷◌, length, slice_get, Option}
use Rattle.std.specs.List.{filter}
use Rattle.std.specs.Option.{option_map_or}
use Rattle.hx_text.specs.declared.address.Ip.{Ip}
use Rattle.hx_text.specs.declared.address.Ip.TheVariants.{V4, V6}
use Rattle.hx_text.specs.declared.kinds.By.{By}
use Rattle.hx_text.specs.declared.kinds.By.TheVariants as by
use Rattle.hx_text.specs.declared.network.Net.{Net}
use Rattle.hx_text.specs.declared.network.Net.TheVariants.{Plain, Masked}
use Rattle.hx_text.specs.Network.{net_of}
use Rattle.hx_sample.specs.declared.sample.Value.{Value}
use Rattle.hx_sample.specs.declared.sample.Value.TheVariants as value
use Rattle.hx_sample.specs.Keys.{hits}

-- an entry of a list of patterns, or of a map: its number, its key, and the value under the key
pub record Entry : Type 0 where
  pub number : ℕ
  pub key : List ℕ
  pub value : List ℕ

-- the first item, if there is one
abbrev pub first_item : {A : Type 0} → List A → Option A
first_item xs = slice_get xs 0

-- the greatest measure of the items, and 0 where there is none
abbrev pub greatest : {A : Type 0} → (A → ℕ) → List A → ℕ
greatest measure [] = 0
greatest measure (x ∷ xs) = max (measure x) (greatest measure xs)

-- the items of the greatest measure, in their order
abbrev pub with_greatest : {A : Type 0} → (A → ℕ) → List A → List A
with_greatest measure xs = filter (λ x. measure x == greatest measure xs) xs

-- how near a network is to the family of an address: a prefix of its family before one of the other
-- family, and a mask last
abbrev pub nearness : Ip → Net → ℕ
nearness (V4 address) (Plain (V4 network) width) = 2
nearness (V6 address) (Plain (V6 network) width) = 2
nearness ip (Plain network width) = 1
nearness ip (Masked network mask) = 0

-- how long the prefix of a network is; a mask is none
abbrev pub prefix_width : Net → ℕ
prefix_width (Plain network width) = width
prefix_width (Masked network mask) = 0

-- a measure of the network that the key of an entry writes
abbrev pub by_network : (Net → ℕ) → Entry → ℕ
by_network measure entry = option_map_or measure (net_of entry.key) 0

-- Of the entries that hit a value, those that go before the others. By `beg` they are those with
-- the longest key, unless case is ignored. By `ip` they are those of the nearest networks, and of
-- these those with the longest prefix. By any other method all are alike.
abbrev pub preferred_entries : By → Bool → Value → List Entry → List Entry
preferred_entries by.Beg false v entries = with_greatest (λ entry. length entry.key) entries
preferred_entries by.Ip ci (value.Ip ip) entries =
    with_greatest (by_network prefix_width) (with_greatest (by_network (nearness ip)) entries)
preferred_entries _ ci v entries = entries

-- the entries whose keys hit the value, in their order
abbrev pub hitting_entries : By → Bool → List Entry → Value → List Entry
hitting_entries method ci entries v = filter (λ entry. hits method ci entry.key v) entries

-- the entry that is found for a value: of those that hit and go before the others, the first
abbrev pub found_entry : By → Bool → List Entry → Value → Option Entry
found_entry method ci entries v =
    first_item (preferred_entries method ci v (hitting_entries method ci entries v))
