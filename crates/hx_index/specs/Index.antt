-- What it is for an index to stand in a pool of nodes for a list of items.
use Rattle.std.specs.Prelude.{◌≡◌, ℕ, ◌+◌, ◌*◌, Bool, false, not, List, map, filter, find, length, bytes_eq, All, Option, Some, option_map}
use Rattle.hx_text.specs.declared.kinds.By.{By}
use Rattle.hx_text.specs.declared.kinds.By.TheVariants as by
use Rattle.hx_pool.specs.Pool.{Pool, get}
use Rattle.hx_pool.specs.Chain.{AreDistinct, LiesIn}
use Rattle.hx_ebtree.specs.declared.node.Node.{Node}
use Rattle.hx_ebtree.specs.Node.{entry_of, value_of, links_of}
use Rattle.hx_ebtree.specs.KeyList.{KeyList}
use Rattle.hx_ebtree.specs.Tree.{Stands}
use Rattle.hx_match.specs.Patterns.{PatternText}
use Rattle.hx_sample.specs.declared.sample.Value.{Value}
use Rattle.hx_sample.specs.declared.sample.Value.TheVariants as value
use Rattle.hx_sample.specs.Find.{Entry, found_entry}
use Rattle.hx_index.specs.declared.part.Part.{Part}
use Rattle.hx_index.specs.declared.part.Part.TheVariants.{Listed, Keyed, Wide}
use Rattle.hx_index.specs.declared.index.Index.{Index}
use Rattle.hx_index.specs.Items.{Item, nodes_of, shown_item}
use Rattle.hx_index.specs.Parts.{IsKeyText, is_same_part, pattern_key, pattern_part}

-- a pool of nodes that keep patterns
abbrev pub NodePool : Type 0
NodePool = Pool (Node PatternText)

-- the method by which the index is searched, and whether case is ignored
abbrev pub method_of : Index → By
method_of index = index.by

abbrev pub ignores_case : Index → Bool
ignores_case index = index.ci

-- the items that belong into a part
abbrev pub in_part : Part → List Item → List Item
in_part part items = filter (λ (item : Item). is_same_part part (pattern_part item.pattern)) items

-- the keys of items, with the numbers of their nodes
abbrev pub key_pairs : List Item → KeyList
key_pairs items = map (λ (item : Item). (pattern_key item.pattern, item.node)) items

-- a part of the index stands in the nodes for these items
abbrev pub HoldsPart : NodePool → Index → Part → List Item → Type 0
HoldsPart nodes index Listed items = LiesIn links_of nodes index.listed (nodes_of items)
HoldsPart nodes index Keyed items = Stands nodes index.keyed (key_pairs items)
HoldsPart nodes index Wide items = Stands nodes index.wide (key_pairs items)

-- the node of the item is live, and has its entry and its pattern
abbrev pub HasNode : NodePool → Item → Type 0
HasNode nodes item = (node : Node PatternText) × (get nodes item.node ≡ Some node)
    × (entry_of node ≡ item.entry) × (value_of node ≡ item.pattern)

-- the pattern of the item is of the method and the case of the index
pub record IsOfUse (method : By) (ci : Bool) (item : Item) : Type 0 where
  pub method_is : item.pattern.by ≡ method
  pub case_is : item.pattern.ci ≡ ci
  pub text : IsKeyText item.pattern.text

-- The index stands in the nodes for the items: each of its parts for those that belong into it, in
-- their order. It stands for each list that differs from them only in the order of patterns that
-- are in different parts, or under different keys of a tree.
pub record Holds (nodes : NodePool) (index : Index) (items : List Item) : Type 0 where
  pub parts : (part : Part) → HoldsPart nodes index part (in_part part items)
  pub distinct : AreDistinct (nodes_of items)
  pub found : All (HasNode nodes) items
  pub uses : All (IsOfUse (method_of index) (ignores_case index)) items

-- the entry that is found for a value among the items
abbrev pub entry_found : Index → List Item → Value → Option ℕ
entry_found index items v = option_map (λ (entry : Entry). entry.number)
    (found_entry (method_of index) (ignores_case index) (map shown_item items) v)

-- how many of the items are in no tree
abbrev pub listed_count : List Item → ℕ
listed_count items = length (in_part Listed items)

-- the most steps that the trees take in a search for a value
abbrev pub tree_steps : By → Bool → Value → ℕ
tree_steps by.Str false (value.Str text) = 16 * length text + 3
tree_steps by.Beg false (value.Str text) = 16 * length text + 3
tree_steps by.Ip ci (value.Ip ip) = 325
tree_steps _ ci v = 0

-- ---- look-ups by a whole text

-- whether patterns of the method and the case are in a tree, each under the bits of its text
abbrev pub keeps_texts : By → Bool → Bool
keeps_texts by.Str ci = not ci
keeps_texts by.Beg ci = not ci
keeps_texts _ ci = false

-- the pattern of the item has the text
abbrev pub has_text : List ℕ → Item → Bool
has_text text item = bytes_eq item.pattern.text text

-- the entry of the first item with the text
abbrev pub entry_with : List ℕ → List Item → Option ℕ
entry_with text items = option_map (λ (item : Item). item.entry) (find (has_text text) items)
