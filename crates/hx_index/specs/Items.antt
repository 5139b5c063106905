-- What an index is a list of: patterns, each with the node that keeps it and the entry that has it.
use Rattle.std.specs.Prelude.{◌≡◌, ℕ, ◌+◌, ◌==◌, not, List, [], ◌∷◌, length, map, filter}
use Rattle.hx_match.specs.Patterns.{PatternText}
use Rattle.hx_sample.specs.Find.{Entry}

-- a pattern, the number of its node, and that of its entry
pub record Item : Type 0 where
  pub node : ℕ
  pub entry : ℕ
  pub pattern : PatternText

-- the numbers of the nodes
abbrev pub nodes_of : List Item → List ℕ
nodes_of items = map (λ (item : Item). item.node) items

-- the items without those of this node, and without those of these nodes
abbrev pub without_node : ℕ → List Item → List Item
without_node node items = filter (λ (item : Item). not (item.node == node)) items

abbrev pub without_nodes : List ℕ → List Item → List Item
without_nodes [] items = items
without_nodes (node ∷ gone) items = without_node node (without_nodes gone items)

-- so many of the items are left out, and the others are left in their order
pub record LeavesOut (count : ℕ) (items left : List Item) : Type 0 where
  pub gone : List ℕ
  pub rest : left ≡ without_nodes gone items
  pub counted : length left + count ≡ length items

-- the entry of an item as searches see it: its number and its key
abbrev pub shown_item : Item → Entry
shown_item item = record { number = item.entry; key = item.pattern.text; value = [] }
