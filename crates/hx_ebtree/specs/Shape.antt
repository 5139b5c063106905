-- What a tree is, apart from where it lies: a leaf for each key, and branches that fork the codes.
use Rattle.std.specs.Prelude.{◌≡◌, ℕ, Bool, true, false, List, [], ◌∷◌, ◌++◌, length, Option, Some}
use Rattle.std.specs.Option.{option_map}
use Rattle.hx_pool.specs.declared.links.Links.{Links}
use Rattle.hx_pool.specs.declared.chain.Chain.{Chain}
use Rattle.hx_pool.specs.Chain.{IsIn, AreDistinct, LiesAt}
use Rattle.hx_ebtree.specs.declared.node.Down.{Down}
use Rattle.hx_ebtree.specs.declared.node.Down.TheVariants.{Leaf, Branch}
use Rattle.hx_ebtree.specs.declared.node.Up.{Up}
use Rattle.hx_ebtree.specs.declared.node.Branch.{Branch as Fork}
use Rattle.hx_ebtree.specs.Bits.{code_of, IsPrefix}
use Rattle.hx_ebtree.specs.KeyList.{KeyList}

pub data Shape : Type 0 where
  -- the key, the number of the first node of it, and those of the others, the older first
  leaf : List Bool → ℕ → List ℕ → Shape
  -- the node whose branch part it is, what the codes below begin with, and the two sides
  fork : ℕ → List Bool → Shape → Shape → Shape

abbrev pub with_key : List Bool → List ℕ → KeyList
with_key key [] = []
with_key key (id ∷ ids) = (key, id) ∷ with_key key ids

-- the pairs of the leaves
abbrev pub pairs_of : Shape → KeyList
pairs_of (leaf key id more) = with_key key (id ∷ more)
pairs_of (fork h shared l r) = pairs_of l ++ pairs_of r

-- numbers of a shape: of each leaf and of each fork
abbrev pub gather : (ℕ → List ℕ → List ℕ) → (ℕ → List ℕ) → Shape → List ℕ
gather at_leaf at_fork (leaf key id more) = at_leaf id more
gather at_leaf at_fork (fork h shared l r) =
    at_fork h ++ (gather at_leaf at_fork l ++ gather at_leaf at_fork r)

abbrev pub all_of : ℕ → List ℕ → List ℕ
all_of id more = id ∷ more

abbrev pub first_of : ℕ → List ℕ → List ℕ
first_of id more = id ∷ []

abbrev pub none_of : ℕ → List ℕ → List ℕ
none_of id more = []

abbrev pub nothing_of : ℕ → List ℕ
nothing_of h = []

abbrev pub only_of : ℕ → List ℕ
only_of h = h ∷ []

-- the nodes of the leaves; the first node of each leaf; the nodes whose branch part is in use
abbrev pub numbers : Shape → List ℕ
numbers = gather all_of nothing_of

abbrev pub fronts : Shape → List ℕ
fronts = gather first_of nothing_of

abbrev pub holders : Shape → List ℕ
holders = gather none_of only_of

-- the codes below begin with p, and each fork parts them by the bit that follows what they share
abbrev pub IsKeyed : List Bool → Shape → Type 0
IsKeyed p (leaf key id more) = IsPrefix p (code_of key)
IsKeyed p (fork h shared l r) = IsPrefix p shared
    × IsKeyed (shared ++ false ∷ []) l × IsKeyed (shared ++ true ∷ []) r

-- each branch stands above the leaf of the node that holds it, which is the first of its chain
abbrev pub IsAbove : Shape → Type 0
IsAbove (leaf key id more) = Unit {0}
IsAbove (fork h shared l r) = IsIn h (fronts l ++ fronts r) × IsAbove l × IsAbove r

pub record IsSound (s : Shape) : Type 0 where
  pub keyed : IsKeyed [] s
  pub above : IsAbove s
  pub numbers : AreDistinct (numbers s)
  pub holders : AreDistinct (holders s)

-- what a node has of a leaf: its key, its links, and, where it is the first of its chain, the chain
-- and where the leaf hangs
pub record LeafPart : Type 0 where
  pub key : List Bool
  pub links : Links
  pub chain : Chain
  pub up : Option Up

-- the leaf part of each live number
abbrev pub Leaves : Type 0
Leaves = ℕ → Option LeafPart

-- the branch part that is in use, of each live number
abbrev pub Forks : Type 0
Forks = ℕ → Option Fork

abbrev pub links_in : Leaves → ℕ → Option Links
links_in f id = option_map (λ (part : LeafPart). part.links) (f id)

abbrev pub key_in : Leaves → ℕ → Option (List Bool)
key_in f id = option_map (λ (part : LeafPart). part.key) (f id)

abbrev pub left_of : ℕ → Option Up
left_of h = Some (record { node = h; right = false })

abbrev pub right_of : ℕ → Option Up
right_of h = Some (record { node = h; right = true })

-- the leaf of a key with these nodes hangs at `up`, and `down` points to it
pub record IsLeafAt (f : Leaves) (up : Option Up) (key : List Bool) (id : ℕ) (more : List ℕ)
    (down : Down) : Type 0 where
  pub part : LeafPart
  pub points : down ≡ Leaf id
  pub here : f id ≡ Some part
  pub hung : part.up ≡ up
  pub lies : LiesAt (links_in f) part.chain (id ∷ more)
  pub keys : (k : ℕ) → IsIn k (id ∷ more) → key_in f k ≡ Some key

-- the branch of this node hangs at `up`, and `down` points to it
pub record IsForkAt (g : Forks) (up : Option Up) (h bit : ℕ) (left right down : Down) : Type 0 where
  pub points : down ≡ Branch h
  pub here : g h ≡ Some (record { bit = bit; left = left; right = right; up = up })

-- the shape hangs at `up`, and `down` points to it
abbrev pub HangsAt : Leaves → Forks → Option Up → Shape → Down → Type 0
HangsAt f g up (leaf key id more) down = IsLeafAt f up key id more down
HangsAt f g up (fork h shared l r) down = (left : Down) × (right : Down)
    × IsForkAt g up h (length shared) left right down
    × HangsAt f g (left_of h) l left × HangsAt f g (right_of h) r right
