-- What the steps of taking a node out change, and what stands in between. No public clause cites
-- this module.
use Rattle.std.specs.Prelude.{◌≡◌, ◌≢◌, ℕ, Bool, true, false, List, [], ◌∷◌, ◌++◌}
use Rattle.std.specs.Prelude.{Option, Some, None}
use Rattle.hx_pool.specs.declared.chain.Chain.{Chain}
use Rattle.hx_pool.specs.Chain.{IsIn, AreDistinct, LiesAt}
use Rattle.hx_ebtree.specs.declared.node.Down.{Down}
use Rattle.hx_ebtree.specs.declared.node.Down.TheVariants.{Leaf, Branch}
use Rattle.hx_ebtree.specs.declared.node.Up.{Up}
use Rattle.hx_ebtree.specs.declared.node.Branch.{Branch as Fork}
use Rattle.hx_ebtree.specs.KeyList.{KeyList, numbers_of}
use Rattle.hx_ebtree.specs.Shape.{Shape, leaf, fork, pairs_of, numbers, fronts, holders}
use Rattle.hx_ebtree.specs.Shape.{IsKeyed, IsSound, LeafPart, Leaves, Forks, links_in, key_in}
use Rattle.hx_ebtree.specs.Shape.{left_of, right_of}
use Rattle.hx_ebtree.specs.ShapeContext.{ShapeContext, plug, hole_up, SurroundsAt}
use Rattle.hx_ebtree.specs.Change.{up_in, SetsUp, SetsDown, SetsBranch, PutsChain, SetsFirst}
use Rattle.hx_ebtree.specs.Tree.{HangsAtRoot, IsIdle, StandsAs}

-- the chain that `front` keeps is taken out of it, and `id` out of the chain
pub record Unchains (f : Leaves) (g : Forks) (f' : Leaves) (g' : Forks)
    (front id : ℕ) (chain : Chain) : Type 0 where
  pub lies : (part : LeafPart) (xs ys : List ℕ) → f front ≡ Some part
      → LiesAt (links_in f) part.chain (xs ++ id ∷ ys) → LiesAt (links_in f') chain (xs ++ ys)
  pub keys : (k : ℕ) → key_in f' k ≡ key_in f k
  pub ups : (k : ℕ) → up_in f' k ≡ up_in f k
  pub leaves : (part : LeafPart) (xs ys : List ℕ) → f front ≡ Some part
      → LiesAt (links_in f) part.chain (xs ++ id ∷ ys)
      → (k : ℕ) → (IsIn k (xs ++ id ∷ ys) → ⊥) → k ≢ front → f' k ≡ f k
  pub forks : (k : ℕ) → g' k ≡ g k

-- `front` keeps its chain without `id`
pub record Shortens (f : Leaves) (g : Forks) (f' : Leaves) (g' : Forks)
    (front id : ℕ) : Type 0 where
  pub f1 : Leaves
  pub g1 : Forks
  pub chain : Chain
  pub unchained : Unchains f g f1 g1 front id chain
  pub put : PutsChain f1 g1 f' g' front chain

-- `next` keeps the chain, and its leaf hangs at `up`
pub record MakesFirst (f : Leaves) (g : Forks) (root : Option Down)
    (f' : Leaves) (g' : Forks) (root' : Option Down)
    (next : ℕ) (chain : Chain) (up : Option Up) : Type 0 where
  pub f1 : Leaves
  pub g1 : Forks
  pub kept : SetsFirst f g f1 g1 next chain up
  pub down : SetsDown f1 g1 root f' g' root' up (Leaf next)

-- what `other` points to hangs at `up` in place of the branch of `m`, which is no longer in use
pub record Cuts (f : Leaves) (g : Forks) (root : Option Down)
    (f' : Leaves) (g' : Forks) (root' : Option Down)
    (m : ℕ) (up : Option Up) (other : Down) : Type 0 where
  pub f1 : Leaves
  pub g1 : Forks
  pub f2 : Leaves
  pub g2 : Forks
  pub hung : SetsUp f g f1 g1 other up
  pub down : SetsDown f1 g1 root f2 g2 root' up other
  pub freed : SetsBranch f2 g2 f' g' m None

-- the branch part of `a` is moved to `b`
pub record MovesPart (f : Leaves) (g : Forks) (root : Option Down)
    (f' : Leaves) (g' : Forks) (root' : Option Down)
    (a b : ℕ) (part : Fork) : Type 0 where
  pub f1 : Leaves
  pub g1 : Forks
  pub f2 : Leaves
  pub g2 : Forks
  pub f3 : Leaves
  pub g3 : Forks
  pub f4 : Leaves
  pub g4 : Forks
  pub put : SetsBranch f g f1 g1 b (Some part)
  pub left : SetsUp f1 g1 f2 g2 part.left (left_of b)
  pub right : SetsUp f2 g2 f3 g3 part.right (right_of b)
  pub down : SetsDown f3 g3 root f4 g4 root' part.up (Branch b)
  pub freed : SetsBranch f4 g4 f' g' a None

-- what hangs on the other side of a branch
abbrev pub other_of : Bool → Fork → Down
other_of false part = part.right
other_of true part = part.left

-- the node is the first of its key in a tree that stands for the pairs
pub record IsFirst (f : Leaves) (g : Forks) (root : Option Down)
    (id : ℕ) (pairs : KeyList) : Type 0 where
  pub whole : Shape
  pub stands : StandsAs f g root (Some whole) pairs
  pub first : IsIn id (fronts whole)

-- what is around the leaf of `id` hangs at the root, and the leaf, which is alone, hung at `up`
pub record IsGap (f : Leaves) (g : Forks) (root : Option Down)
    (id : ℕ) (up : Option Up) (pairs : KeyList) : Type 0 where
  pub context : ShapeContext
  pub key : List Bool
  pub up_is : up ≡ hole_up context
  pub around : SurroundsAt f g root context (Leaf id)
  pub sound : IsSound (plug context (leaf key id []))
  pub idle : IsIdle g (Some (plug context (leaf key id [])))
  pub same : (k : List Bool)
      → numbers_of k pairs ≡ numbers_of k (pairs_of (plug context (leaf key id [])))

-- each branch stands above the leaf of the node that `place` gives for its own
abbrev pub IsAboveBy : (ℕ → ℕ) → Shape → Type 0
IsAboveBy place (leaf key id more) = Unit {0}
IsAboveBy place (fork h shared l r) = IsIn (place h) (fronts l ++ fronts r)
    × IsAboveBy place l × IsAboveBy place r

-- the shape lies in the slots for the pairs, without the leaf of `id`. The branch part of `id` is
-- still in use if it was. It stands where that of `y` may stand, which is not in use
pub record IsDetached (f : Leaves) (g : Forks) (root : Option Down)
    (id y : ℕ) (s : Shape) (pairs : KeyList) : Type 0 where
  pub hangs : HangsAtRoot f g root (Some s)
  pub keyed : IsKeyed [] s
  pub distinct : AreDistinct (numbers s)
  pub distinct_holders : AreDistinct (holders s)
  pub gone : IsIn id (numbers s) → ⊥
  pub place : ℕ → ℕ
  pub moved : IsIn id (holders s) → place id ≡ y
  pub stays : (k : ℕ) → k ≢ id → place k ≡ k
  pub above : IsAboveBy place s
  pub free : IsIn id (holders s) → IsIn y (holders s) → ⊥
  pub idle : (k : ℕ) → IsIn k (id ∷ numbers s) → (IsIn k (holders s) → ⊥) → g k ≡ None
  pub same : (k : List Bool) → numbers_of k pairs ≡ numbers_of k (pairs_of s)

-- the same, or an empty tree, and no branch part of `id` in use
abbrev pub IsWithout : Leaves → Forks → Option Down → ℕ → ℕ → Option Shape → KeyList → Type 0
IsWithout f g root id y None pairs =
    (root ≡ None) × (g id ≡ None) × ((k : List Bool) → numbers_of k pairs ≡ [])
IsWithout f g root id y (Some s) pairs = IsDetached f g root id y s pairs
