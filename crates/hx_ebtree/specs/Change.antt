-- What single steps change of the parts in the slots. No public clause cites this module.
use Rattle.std.specs.Prelude.{◌≡◌, ◌≢◌, ℕ, Bool, true, false, List, [], ◌∷◌, ◌++◌, Option, Some, None}
use Rattle.std.specs.Option.{option_map}
use mathlib.Core.Bool.{not}
use Rattle.hx_pool.specs.declared.chain.Chain.{Chain}
use Rattle.hx_pool.specs.Chain.{IsIn, LiesAt}
use Rattle.hx_ebtree.specs.declared.node.Down.{Down}
use Rattle.hx_ebtree.specs.declared.node.Down.TheVariants.{Leaf, Branch}
use Rattle.hx_ebtree.specs.declared.node.Up.{Up}
use Rattle.hx_ebtree.specs.declared.node.Branch.{Branch as Fork}
use Rattle.hx_ebtree.specs.Shape.{LeafPart, Leaves, Forks, links_in, key_in, left_of, right_of}

abbrev pub node_of : Down → ℕ
node_of (Leaf id) = id
node_of (Branch id) = id

abbrev pub with_up : Option Up → Fork → Fork
with_up up b = record b { up = up }

abbrev pub with_side : Bool → Down → Fork → Fork
with_side false down b = record b { left = down }
with_side true down b = record b { right = down }

abbrev pub up_in : Leaves → ℕ → Option (Option Up)
up_in f id = option_map (λ (part : LeafPart). part.up) (f id)

-- what `down` points to hangs at `up`
pub record SetsUp (f : Leaves) (g : Forks) (f' : Leaves) (g' : Forks) (down : Down) (up : Option Up)
    : Type 0 where
  pub leaf : (h : ℕ) (part : LeafPart) → down ≡ Leaf h → f h ≡ Some part
      → f' h ≡ Some (record part { up = up })
  pub leaves : (k : ℕ) → down ≢ Leaf k → f' k ≡ f k
  pub fork : (h : ℕ) (b : Fork) → down ≡ Branch h → g h ≡ Some b → g' h ≡ Some (with_up up b)
  pub forks : (k : ℕ) → down ≢ Branch k → g' k ≡ g k

-- the place `up` points to `down`
pub record SetsDown (f : Leaves) (g : Forks) (root : Option Down) (f' : Leaves) (g' : Forks)
    (root' : Option Down) (up : Option Up) (down : Down) : Type 0 where
  pub top : up ≡ None → root' ≡ Some down
  pub kept : (u : Up) → up ≡ Some u → root' ≡ root
  pub left : (h : ℕ) (b : Fork) → up ≡ left_of h → g h ≡ Some b
      → g' h ≡ Some (record b { left = down })
  pub right : (h : ℕ) (b : Fork) → up ≡ right_of h → g h ≡ Some b
      → g' h ≡ Some (record b { right = down })
  pub forks : (k : ℕ) → ((u : Up) → up ≡ Some u → u.node ≢ k) → g' k ≡ g k
  pub leaves : (k : ℕ) → f' k ≡ f k

-- the node has this branch part
pub record SetsBranch (f : Leaves) (g : Forks) (f' : Leaves) (g' : Forks) (id : ℕ)
    (branch : Option Fork) : Type 0 where
  pub here : g' id ≡ branch
  pub forks : (k : ℕ) → k ≢ id → g' k ≡ g k
  pub leaves : (k : ℕ) → f' k ≡ f k

-- the node is a leaf of its own, with this branch part
pub record PutsLeaf (f : Leaves) (g : Forks) (f' : Leaves) (g' : Forks) (id : ℕ) (up : Option Up)
    (branch : Option Fork) : Type 0 where
  pub leaf : (part : LeafPart) → f id ≡ Some part → (new : LeafPart) × (f' id ≡ Some new)
      × (new.key ≡ part.key) × (new.up ≡ up) × LiesAt (links_in f') new.chain (id ∷ [])
  pub leaves : (k : ℕ) → k ≢ id → f' k ≡ f k
  pub here : g' id ≡ branch
  pub forks : (k : ℕ) → k ≢ id → g' k ≡ g k

-- the chain of a node is taken out of it
pub record TakesChain (f : Leaves) (g : Forks) (f' : Leaves) (g' : Forks) (id : ℕ) (chain : Chain)
    : Type 0 where
  pub taken : (part : LeafPart) → f id ≡ Some part → chain ≡ part.chain
  pub links : (k : ℕ) → links_in f' k ≡ links_in f k
  pub keys : (k : ℕ) → key_in f' k ≡ key_in f k
  pub ups : (k : ℕ) → up_in f' k ≡ up_in f k
  pub leaves : (k : ℕ) → k ≢ id → f' k ≡ f k
  pub forks : (k : ℕ) → g' k ≡ g k

-- the node keeps this chain
pub record PutsChain (f : Leaves) (g : Forks) (f' : Leaves) (g' : Forks) (id : ℕ) (chain : Chain)
    : Type 0 where
  pub leaf : (part : LeafPart) → f id ≡ Some part → f' id ≡ Some (record part { chain = chain })
  pub leaves : (k : ℕ) → k ≢ id → f' k ≡ f k
  pub forks : (k : ℕ) → g' k ≡ g k

-- the node keeps this chain, and its leaf hangs at `up`
pub record SetsFirst (f : Leaves) (g : Forks) (f' : Leaves) (g' : Forks) (id : ℕ) (chain : Chain)
    (up : Option Up) : Type 0 where
  pub leaf : (part : LeafPart) → f id ≡ Some part
      → f' id ≡ Some (record part { chain = chain; up = up })
  pub leaves : (k : ℕ) → k ≢ id → f' k ≡ f k
  pub forks : (k : ℕ) → g' k ≡ g k

-- the node keeps this chain, its leaf hangs at `up`, and it has this branch part
pub record SetsLeaf (f : Leaves) (g : Forks) (f' : Leaves) (g' : Forks) (id : ℕ) (chain : Chain)
    (up : Option Up) (branch : Option Fork) : Type 0 where
  pub leaf : (part : LeafPart) → f id ≡ Some part
      → f' id ≡ Some (record part { chain = chain; up = up })
  pub leaves : (k : ℕ) → k ≢ id → f' k ≡ f k
  pub here : g' id ≡ branch
  pub forks : (k : ℕ) → k ≢ id → g' k ≡ g k

-- the node joins the end of the chain that `front` keeps
pub record Pushes (f : Leaves) (g : Forks) (f' : Leaves) (g' : Forks) (front id : ℕ) : Type 0 where
  pub leaf : (part : LeafPart) (more : List ℕ) → f front ≡ Some part
      → LiesAt (links_in f) part.chain (front ∷ more) → (IsIn id (front ∷ more) → ⊥)
      → (new : LeafPart) × (f' front ≡ Some new) × (new.up ≡ part.up)
      × LiesAt (links_in f') new.chain (front ∷ more ++ id ∷ [])
  pub keys : (k : ℕ) → key_in f' k ≡ key_in f k
  pub leaves : (part : LeafPart) (more : List ℕ) → f front ≡ Some part
      → LiesAt (links_in f) part.chain (front ∷ more)
      → (k : ℕ) → (IsIn k (front ∷ more) → ⊥) → k ≢ id → f' k ≡ f k
  pub here : g' id ≡ None
  pub forks : (k : ℕ) → k ≢ id → g' k ≡ g k

-- the branch part of a node whose own leaf is on one side, with `at` on the other
abbrev pub fork_of : ℕ → Down → Option Up → ℕ → Bool → Fork
fork_of id at up bit false = record { bit = bit; left = Leaf id; right = at; up = up }
fork_of id at up bit true = record { bit = bit; left = at; right = Leaf id; up = up }

-- a node's leaf and its branch part go between `up` and what is at `at`
pub record PutsFork (f : Leaves) (g : Forks) (root : Option Down) (f' : Leaves) (g' : Forks)
    (root' : Option Down) (id : ℕ) (at : Down) (up : Option Up) (bit : ℕ) (right : Bool)
    : Type 0 where
  pub f1 : Leaves
  pub g1 : Forks
  pub f2 : Leaves
  pub g2 : Forks
  pub leaf : PutsLeaf f g f1 g1 id (Some (record { node = id; right = right }))
      (Some (fork_of id at up bit right))
  pub other : SetsUp f1 g1 f2 g2 at (Some (record { node = id; right = not right }))
  pub down : SetsDown f2 g2 root f' g' root' up (Branch id)
