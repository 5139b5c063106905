-- What it is for the content of a version to stand in the slots of entries and nodes for a list of
-- entries.
use Rattle.std.specs.Prelude.{◌≡◌, ◌≢◌, ℕ, ◌+◌, ◌*◌, ◌==◌, ⊤, Bool, true, false, not, List, [], ◌∷◌, ◌++◌, length, map, find, replicate, sum, slice_get, slice_index, slice_index_or, All, Option, Some, None, IsSome, option_map, if◌then◌else◌}
use Rattle.std.specs.Borrow.{Bor}
use Rattle.std.specs.List.{filter, filter_map}
use Rattle.hx_text.specs.declared.kinds.By.{By}
use Rattle.hx_pool.specs.Pool.{Pool, get}
use Rattle.hx_pool.specs.Chain.{AreApart, IsIn, LiesIn, numbers_in}
use Rattle.hx_ebtree.specs.declared.node.Node.{Node}
use Rattle.hx_ebtree.specs.Node.{entry_of}
use Rattle.hx_match.specs.Patterns.{PatternText}
use Rattle.hx_sample.specs.Changes.{with_value}
use Rattle.hx_sample.specs.Find.{Entry}
use Rattle.hx_index.specs.declared.index.Index.{Index}
use Rattle.hx_index.specs.Items.{Item, nodes_of, without_node}
use Rattle.hx_index.specs.Index.{Holds, NodePool, ignores_case, keeps_texts, method_of}
use Rattle.hx_versions.specs.declared.choice.Choice.{Choice}
use Rattle.hx_versions.specs.declared.choice.Choice.TheVariants as choice
use Rattle.hx_versions.specs.declared.content.Content.{Content}
use Rattle.hx_versions.specs.declared.stored_entry.StoredEntry.{StoredEntry}
use Rattle.hx_versions.specs.StoredEntries.{entry_links, stored_entry, stored_nodes}
use Rattle.hx_versions.specs.Versions.{chosen_count}

-- a pool of slots of entries
abbrev pub EntryPool : Type 0
EntryPool = Pool StoredEntry

-- ---- what callers see of a content

-- the entry in a slot
abbrev pub entry_in : EntryPool → ℕ → Option Entry
entry_in entries slot = option_map stored_entry (get entries slot)

-- the entries of a content, in their order
abbrev pub content_entries : EntryPool → Content → List Entry
content_entries entries content =
    filter_map (entry_in entries) (numbers_in entry_links entries content.entries content.count)

-- ---- what a content stands for

-- an entry, with the number of its slot and those of the nodes that keep its key, one for each
-- index
pub record PlacedEntry : Type 0 where
  pub slot : ℕ
  pub entry : Entry
  pub nodes : List ℕ

abbrev pub slots_of : List PlacedEntry → List ℕ
slots_of placed = map (λ (p : PlacedEntry). p.slot) placed

abbrev pub entries_of : List PlacedEntry → List Entry
entries_of placed = map (λ (p : PlacedEntry). p.entry) placed

-- the same, with another value
abbrev pub with_other_value : List ℕ → PlacedEntry → PlacedEntry
with_other_value value placed = record placed {
  entry = record placed.entry { value = value };
}

-- the entries without those that a test chooses
abbrev pub without_chosen_entries : (Entry → Bool) → List PlacedEntry → List PlacedEntry
without_chosen_entries test placed =
    filter (λ (p : PlacedEntry). not (test p.entry)) placed

-- the entries, with the value where a test chooses them
abbrev pub with_chosen_values : (Entry → Bool) → List ℕ → List PlacedEntry → List PlacedEntry
with_chosen_values test value placed =
    map (λ (p : PlacedEntry). record p { entry = with_value test value p.entry }) placed

-- copies of the value, one for each entry that the test chooses
abbrev pub AreCopies : (Entry → Bool) → List PlacedEntry → List ℕ → List (List ℕ) → Type 0
AreCopies test placed value copies =
    copies ≡ replicate (chosen_count test (entries_of placed)) value

-- the slot has an entry of the version in the slot of a number
abbrev pub IsOfVersion : EntryPool → ℕ → ℕ → Type 0
IsOfVersion entries version slot = (stored : StoredEntry) × (get entries slot ≡ Some stored)
    × (stored.version ≡ version)

-- the slot has the entry, which is of that version, and the numbers of its nodes
abbrev pub HasEntry : EntryPool → ℕ → PlacedEntry → Type 0
HasEntry entries version placed = (stored : StoredEntry) × (get entries placed.slot ≡ Some stored)
    × (stored.version ≡ version) × (stored_entry stored ≡ placed.entry)
    × (stored_nodes stored ≡ placed.nodes)

-- the entry has so many nodes
abbrev pub HasNodes : ℕ → PlacedEntry → Type 0
HasNodes count placed = length placed.nodes ≡ count

-- the key of an entry as a pattern of the index at a position, which is for a method and a case
abbrev pub item_of : ℕ → By → Bool → PlacedEntry → Item
item_of at method ci placed = record {
  node = slice_index placed.nodes at;
  entry = placed.slot;
  pattern = record { by = method; ci = ci; text = placed.entry.key };
}

-- the items of an index, by its position, its method and its case
abbrev pub Listing : Type 0
Listing = ℕ → By → Bool → List Item

abbrev pub items_of : List PlacedEntry → Listing
items_of placed at method ci = map (item_of at method ci) placed

-- the methods and cases that indexes are for
abbrev pub ways_of : List Index → List (By × Bool)
ways_of indexes = map (λ (index : Index). (method_of index, ignores_case index)) indexes

-- the items of an index, by its position
abbrev pub items_at : Listing → ℕ → Index → List Item
items_at items at index = items at (method_of index) (ignores_case index)

-- each index stands in the nodes for its items, and no two of them share a node
pub record StandIn (nodes : NodePool) (indexes : List Index) (items : Listing) : Type 0 where
  pub apart : (at other : ℕ) (a b : Index) → slice_get indexes at ≡ Some a
      → slice_get indexes other ≡ Some b → other ≢ at
      → AreApart (nodes_of (items_at items at a)) (nodes_of (items_at items other b))
  pub holds : (at : ℕ) (index : Index) → slice_get indexes at ≡ Some index
      → Holds nodes index (items_at items at index)

-- the items of each index are of entries of the version in the slot of a number
abbrev pub AreItemsOfVersion : EntryPool → ℕ → List (By × Bool) → Listing → Type 0
AreItemsOfVersion entries version ways items = (at : ℕ) (way : By × Bool)
    → slice_get ways at ≡ Some way
    → All (λ (item : Item). IsOfVersion entries version item.entry) (items at way.0 way.1)

-- The content stands in the slots for the entries, which are of the version in the slot of that
-- number: its chain leads through them, and each index stands for their keys.
pub record IsContent (entries : EntryPool) (nodes : NodePool) (version : ℕ) (content : Content)
    (placed : List PlacedEntry) : Type 0 where
  pub chain : LiesIn entry_links entries content.entries (slots_of placed)
  pub count : content.count ≡ length placed
  pub found : All (HasEntry entries version) placed
  pub whole : All (HasNodes (length content.indexes.items)) placed
  pub indexes : StandIn nodes content.indexes.items (items_of placed)

-- the slots that it takes
abbrev pub content_slots : Content → ℕ
content_slots content = content.count + content.count * length content.indexes.items

-- ---- a content that waits for its slots to be given back

-- what is left of one: the slots of its entries, and of each index its items
pub record Remains : Type 0 where
  pub slots : List ℕ
  pub items : List (List Item)

-- the items of the index at a position
abbrev pub remaining_items : List (List Item) → Listing
remaining_items lists at method ci = slice_index_or lists at []

-- it stands for what is left of it; entries and items are of the version in the slot of that number
pub record IsRetired (entries : EntryPool) (nodes : NodePool) (version : ℕ) (content : Content)
    (left : Remains) : Type 0 where
  pub chain : LiesIn entry_links entries content.entries left.slots
  pub found : All (IsOfVersion entries version) left.slots
  pub lists : length left.items ≡ length content.indexes.items
  pub indexes : StandIn nodes content.indexes.items (remaining_items left.items)
  pub owned : All (All (λ (item : Item). IsOfVersion entries version item.entry)) left.items

-- the slots that it still takes
abbrev pub remaining_slots : Remains → ℕ
remaining_slots left = length left.slots + sum (map length left.items)

-- so many items are taken out of lists, and the others are left
pub record IsTakenFrom (count : ℕ) (lists left : List (List Item)) : Type 0 where
  pub many : length left ≡ length lists
  pub counted : sum (map length left) + count ≡ sum (map length lists)
  pub owned : (entries : EntryPool) (version : ℕ)
      → All (All (λ (item : Item). IsOfVersion entries version item.entry)) lists
      → All (All (λ (item : Item). IsOfVersion entries version item.entry)) left

-- ---- what a step leaves as it was

-- The step changes no node of an entry of another version than that in the slot of this number.
abbrev pub LeavesNodes : EntryPool → ℕ → NodePool → NodePool → Type 0
LeavesNodes entries version nodes nodes' = (id : ℕ) (node : Node PatternText)
    (stored : StoredEntry) → get nodes id ≡ Some node → get entries (entry_of node) ≡ Some stored
    → stored.version ≢ version → get nodes' id ≡ Some node

-- It changes no entry of another version either.
pub record LeavesOthers (version : ℕ) (entries entries' : EntryPool) (nodes nodes' : NodePool)
    : Type 0 where
  pub of_entries : (slot : ℕ) (stored : StoredEntry) → get entries slot ≡ Some stored
      → stored.version ≢ version → get entries' slot ≡ Some stored
  pub of_nodes : LeavesNodes entries version nodes nodes'

-- It changes no entry of another version, where it takes no index along.
abbrev pub LeavesEntries : ℕ → EntryPool → EntryPool → Type 0
LeavesEntries version entries entries' = (slot : ℕ) (stored : StoredEntry)
    → get entries slot ≡ Some stored → stored.version ≢ version → get entries' slot ≡ Some stored

-- It changes no entry of the version in the slot of this number, and no node of one.
pub record KeepsContent (version : ℕ) (entries entries' : EntryPool) (nodes nodes' : NodePool)
    : Type 0 where
  pub of_entries : (slot : ℕ) (stored : StoredEntry) → get entries slot ≡ Some stored
      → stored.version ≡ version → get entries' slot ≡ Some stored
  pub of_nodes : (id : ℕ) (node : Node PatternText) (stored : StoredEntry)
      → get nodes id ≡ Some node → get entries (entry_of node) ≡ Some stored
      → stored.version ≡ version → get nodes' id ≡ Some node

-- ---- keys that go into indexes

-- the list at a position is another
abbrev pub with_list : ℕ → List Item → Listing → Listing
with_list at list items other method ci = if other == at then list else items other method ci

-- the index at a position has one item more: a node of this number, of an entry, with this key
abbrev pub new_item : ℕ → ℕ → List ℕ → By → Bool → Item
new_item node entry key method ci =
    record { node = node; entry = entry; pattern = record { by = method; ci = ci; text = key } }

-- each index has one item more: the node whose number stands at its position, of the same entry
abbrev pub with_items : ℕ → List ℕ → List ℕ → Listing → Listing
with_items entry key numbers items at method ci =
    items at method ci ++ new_item (slice_index numbers at) entry key method ci ∷ []

-- each index is without the node whose number stands at its position
abbrev pub without_numbers : List ℕ → Listing → Listing
without_numbers numbers items at method ci =
    without_node (slice_index numbers at) (items at method ci)

-- the node is one of the index at a position
abbrev pub IsNodeAt : List (By × Bool) → ℕ → ℕ → Listing → Type 0
IsNodeAt ways at node items = (way : By × Bool) → slice_get ways at ≡ Some way
    → IsIn node (nodes_of (items at way.0 way.1))

-- each index has the node whose number stands at its position
abbrev pub AreNodes : List (By × Bool) → List ℕ → Listing → Type 0
AreNodes ways numbers items = (at : ℕ) → IsNodeAt ways at (slice_index numbers at) items

-- ---- entries that are found by their key

-- keys are found whole through the index at a position
abbrev pub KeepsTextsAt : List (By × Bool) → ℕ → Type 0
KeepsTextsAt ways at = (way : By × Bool) × (slice_get ways at ≡ Some way)
    × (keeps_texts way.0 way.1 ≡ true)

-- the slot of the first entry that a test chooses
abbrev pub first_chosen : (Entry → Bool) → List PlacedEntry → Option ℕ
first_chosen test placed =
    option_map (λ (p : PlacedEntry). p.slot) (find (λ (p : PlacedEntry). test p.entry) placed)

-- how the chosen entries are reached: through the index at a position, by their key, or along the
-- chain
abbrev pub Way : Type 0
Way = Option (ℕ × Bor (List ℕ))

-- the way leads to the entries that are chosen
abbrev pub IsWayTo : List (By × Bool) → Way → Choice → Type 0
IsWayTo ways None chosen = ⊤
IsWayTo ways (Some found) chosen =
    KeepsTextsAt ways found.0 × (chosen ≡ choice.Key found.1)

-- an entry in its slot, before which a test chooses none; by an index the entry itself is chosen
pub record IsReached (way : Way) (test : Entry → Bool) (slot : ℕ) (placed : List PlacedEntry)
    : Type 0 where
  pub before : List PlacedEntry
  pub entry : PlacedEntry
  pub after : List PlacedEntry
  pub is : placed ≡ before ++ entry ∷ after
  pub here : entry.slot ≡ slot
  pub passed : All (λ (p : PlacedEntry). test p.entry ≡ false) before
  pub chosen : IsSome way → test entry.entry ≡ true

-- such an entry is in the slot, or none is chosen where there is no slot
abbrev pub LeadsTo : Way → (Entry → Bool) → Option ℕ → List PlacedEntry → Type 0
LeadsTo way test None placed = All (λ (p : PlacedEntry). test p.entry ≡ false) placed
LeadsTo way test (Some slot) placed = IsReached way test slot placed
