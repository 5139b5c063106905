-- What it is for a tree to stand in a pool for a list of pairs.
use Rattle.std.specs.Prelude.{◌≡◌, ℕ, Bool, List, [], Option, Some, None}
use Rattle.std.specs.Option.{option_map, option_and_then}
use Rattle.hx_pool.specs.Pool.{Pool, get, live_count}
use Rattle.hx_pool.specs.Chain.{IsIn}
use Rattle.hx_ebtree.specs.declared.node.Down.{Down}
use Rattle.hx_ebtree.specs.declared.node.Node.{Node}
use Rattle.hx_ebtree.specs.declared.tree.Tree.{Tree}
use Rattle.hx_ebtree.specs.Node.{key_of, entry_of, value_of}
use Rattle.hx_ebtree.specs.KeyList.{KeyList, numbers_of}
use Rattle.hx_ebtree.specs.Shape.{Shape, pairs_of, numbers, holders, IsSound, LeafPart, Leaves, Forks, HangsAt}

module _ {V : Type 0} where
  abbrev pub leaf_part : Node V → LeafPart
  leaf_part n = record { key = n.key; links = n.links; chain = n.chain; up = n.leaf_up }

  abbrev pub leaves_of : Pool (Node V) → Leaves
  leaves_of p id = option_map leaf_part (get p id)

  abbrev pub forks_of : Pool (Node V) → Forks
  forks_of p id = option_and_then (λ (n : Node V). n.branch) (get p id)

-- no shape at an empty root, or one that hangs there
abbrev pub HangsAtRoot : Leaves → Forks → Option Down → Option Shape → Type 0
HangsAtRoot f g root None = root ≡ None
HangsAtRoot f g root (Some s) = (down : Down) × (root ≡ Some down) × HangsAt f g None s down

abbrev pub all_pairs : Option Shape → KeyList
all_pairs None = []
all_pairs (Some s) = pairs_of s

abbrev pub IsSoundOrNone : Option Shape → Type 0
IsSoundOrNone None = Unit {0}
IsSoundOrNone (Some s) = IsSound s

-- the branch parts that no fork holds are unused
abbrev pub IsIdle : Forks → Option Shape → Type 0
IsIdle g None = Unit {0}
IsIdle g (Some s) = (k : ℕ) → IsIn k (numbers s) → (IsIn k (holders s) → ⊥) → g k ≡ None

-- a shape lies in the slots, is sound, and has for each key the numbers of the pairs in their order
pub record StandsAs (f : Leaves) (g : Forks) (root : Option Down) (shape : Option Shape)
    (pairs : KeyList) : Type 0 where
  pub hangs : HangsAtRoot f g root shape
  pub sound : IsSoundOrNone shape
  pub idle : IsIdle g shape
  pub same : (key : List Bool) → numbers_of key pairs ≡ numbers_of key (all_pairs shape)

-- the tree stands in these parts for the pairs, and for each list that differs from them in the
-- order of unequal keys alone
pub record StandsIn (f : Leaves) (g : Forks) (t : Tree) (pairs : KeyList) : Type 0 where
  pub shape : Option Shape
  pub stands : StandsAs f g t.root shape pairs

-- the tree stands in the pool for the pairs
abbrev pub Stands : {V : Type 0} → Pool (Node V) → Tree → KeyList → Type 0
Stands p t pairs = StandsIn (leaves_of p) (forks_of p) t pairs

-- key, entry and value of two nodes are the same
abbrev pub IsSameEntry : {V : Type 0} → Option (Node V) → Option (Node V) → Type 0
IsSameEntry None b = b ≡ None
IsSameEntry {V} (Some a) b = (n : Node V) × (b ≡ Some n)
    × (key_of n ≡ key_of a) × (entry_of n ≡ entry_of a) × (value_of n ≡ value_of a)

-- each node keeps its key, its entry and its value
pub record KeepsNodes {V : Type 0} (old new : Pool (Node V)) : Type 0 where
  pub nodes : (k : ℕ) → IsSameEntry (get old k) (get new k)
  pub spare : new.spare ≡ old.spare
  pub live : live_count new ≡ live_count old
