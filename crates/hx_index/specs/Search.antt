-- How an index is searched, and what its parts are asked. No public clause cites this module.
use Rattle.std.specs.Prelude.{◌≡◌, ℕ, ◌^◌, ◌<◌, ◌≤◌, ⊤, Bool, false, List, [], Option, Some, None, find, option_and_then, option_map}
use Rattle.std.specs.Int.{w32, w128, to_be_bytes}
use Rattle.std.specs.Option.{option_or}
use Rattle.hx_text.specs.declared.kinds.By.{By}
use Rattle.hx_text.specs.declared.kinds.By.TheVariants as by
use Rattle.hx_text.specs.declared.address.Ip.{Ip}
use Rattle.hx_text.specs.declared.address.Ip.TheVariants.{V4, V6}
use Rattle.hx_text.specs.declared.network.Net.{Net}
use Rattle.hx_text.specs.declared.network.Net.TheVariants.{Plain, Masked}
use Rattle.hx_text.specs.Mapping.{ipv4_of, mapped_address}
use Rattle.hx_pool.specs.Pool.{get}
use Rattle.hx_pool.specs.Chain.{IsIn}
use Rattle.hx_ebtree.specs.declared.node.Node.{Node}
use Rattle.hx_ebtree.specs.Node.{key_of}
use Rattle.hx_ebtree.specs.Bits.{bits_of}
use Rattle.hx_ebtree.specs.KeyList.{longest_of}
use Rattle.hx_ebtree.specs.Tree.{KeepsNodes}
use Rattle.hx_match.specs.Patterns.{PatternText}
use Rattle.hx_sample.specs.declared.sample.Value.{Value}
use Rattle.hx_sample.specs.Keys.{hits}
use Rattle.hx_index.specs.declared.index.Index.{Index}
use Rattle.hx_index.specs.declared.finding.Search.{Search}
use Rattle.hx_index.specs.declared.finding.Search.TheVariants.{Scan, Exact, Longest, Nearest}
use Rattle.hx_index.specs.declared.part.Part.{Part}
use Rattle.hx_index.specs.declared.part.Part.TheVariants.{Keyed, Wide}
use Rattle.hx_index.specs.Items.{Item, nodes_of, without_node}
use Rattle.hx_index.specs.Parts.{pattern_key, pattern_part}
use Rattle.hx_index.specs.Index.{HasNode, Holds, IsOfUse, NodePool, ignores_case, in_part, key_pairs, method_of}

-- how patterns of the method and the case are searched
abbrev pub search_of : By → Bool → Search
search_of by.Str false = Exact
search_of by.Beg false = Longest
search_of by.Ip ci = Nearest
search_of _ ci = Scan

-- whether the item's pattern hits the value
abbrev pub is_hit : Value → Item → Bool
is_hit v item = hits item.pattern.by item.pattern.ci item.pattern.text v

-- the entry of the first item whose pattern hits the value
abbrev pub first_hit_of : Value → List Item → Option ℕ
first_hit_of v items = option_map (λ (item : Item). item.entry) (find (is_hit v) items)

-- the bits of an address, all of them, the highest first
abbrev pub ipv4_bits : ℕ → List Bool
ipv4_bits address = bits_of (to_be_bytes w32 address) 32

abbrev pub ipv6_bits : ℕ → List Bool
ipv6_bits address = bits_of (to_be_bytes w128 address) 128

-- a prefix is no longer than an address of its family
abbrev pub HasWidth : Net → Type 0
HasWidth (Plain (V4 network) width) = width ≤ 32
HasWidth (Plain (V6 network) width) = width ≤ 128
HasWidth (Masked network mask) = ⊤

-- an address is no larger than one of its family can be
abbrev pub IsAddress : Ip → Type 0
IsAddress (V4 address) = address < 2 ^ 32
IsAddress (V6 address) = address < 2 ^ 128

-- the node of the longest prefix of the family of an address, or else that of the address of the
-- other family that stands for it or that it stands for
abbrev pub prefix_node_of : List Item → Ip → Option ℕ
prefix_node_of items (V4 address) =
    option_or (longest_of (key_pairs (in_part Keyed items)) (ipv4_bits address))
    (longest_of (key_pairs (in_part Wide items)) (ipv6_bits (mapped_address address)))
prefix_node_of items (V6 address) =
    option_or (longest_of (key_pairs (in_part Wide items)) (ipv6_bits address))
    (option_and_then (λ ipv4. longest_of (key_pairs (in_part Keyed items)) (ipv4_bits ipv4))
    (ipv4_of address))

-- a live node that an index can take in as this item, into this part
pub record IsNewItem (nodes : NodePool) (method : By) (ci : Bool) (part : Part) (items : List Item)
    (item : Item) : Type 0 where
  pub off : IsIn item.node (nodes_of items) → ⊥
  pub belongs : pattern_part item.pattern ≡ part
  pub has : HasNode nodes item
  pub keyed : (node : Node PatternText) → get nodes item.node ≡ Some node
      → key_of node ≡ pattern_key item.pattern
  pub use_is : IsOfUse method ci item

-- a node was taken out of a part of an index, or none where the part is empty
pub record TakesOut (part : Part) (old : NodePool) (before : Index) (new : NodePool) (after : Index)
    (taken : Option ℕ) : Type 0 where
  pub none : (items : List Item) → Holds old before items → taken ≡ None
      → (in_part part items ≡ []) × Holds new after items
  pub some : (items : List Item) (node : ℕ) → Holds old before items → taken ≡ Some node
      → IsIn node (nodes_of items) × Holds new after (without_node node items)
  pub kept : KeepsNodes old new
  pub others : (items : List Item) → Holds old before items
      → (k : ℕ) → (IsIn k (nodes_of items) → ⊥) → get new k ≡ get old k
  pub method_is : method_of after ≡ method_of before
  pub case_is : ignores_case after ≡ ignores_case before
