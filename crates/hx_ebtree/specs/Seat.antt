-- Where a key is, or where it goes. No public clause cites this module.
use Rattle.std.specs.Prelude.{◌≡◌, ℕ, ◌*◌, ◌%◌, ◌==◌, Bool, true, false, if◌then◌else◌, nat_lt, List, [], ◌∷◌, ◌++◌, length, slice_index_or, Option, Some, None}
use mathlib.Core.Bool.{not}
use Rattle.hx_ebtree.specs.declared.node.Down.{Down}
use Rattle.hx_ebtree.specs.declared.node.Down.TheVariants.{Leaf, Branch}
use Rattle.hx_ebtree.specs.declared.node.Up.{Up}
use Rattle.hx_ebtree.specs.declared.node.Branch.{Branch as Fork}
use Rattle.hx_ebtree.specs.declared.seek.Seat.{Seat}
use Rattle.hx_ebtree.specs.declared.seek.Seat.TheVariants.{Same, Beside}
use Rattle.hx_ebtree.specs.Bits.{code_of, IsPrefix}
use Rattle.hx_ebtree.specs.KeyList.{KeyList, numbers_of}
use Rattle.hx_ebtree.specs.Shape.{Shape, leaf, pairs_of, IsKeyed, Leaves, Forks, HangsAt}
use Rattle.hx_ebtree.specs.ShapeContext.{ShapeContext, plug, hole_up, hole_shared, SurroundsAt}
use Rattle.hx_ebtree.specs.Tree.{StandsAs}

-- where two codes part, if it is before `limit`
abbrev pub split_before_of : ℕ → Option ℕ → Option ℕ
split_before_of limit None = None
split_before_of limit (Some at) = if nat_lt at limit then Some at else None

abbrev pub side_of : Bool → Fork → Down
side_of false b = b.left
side_of true b = b.right

abbrev pub leaf_seat_of : List Bool → ℕ → Option Up → Option ℕ → Seat
leaf_seat_of key id up None = Same id
leaf_seat_of key id up (Some bit) = Beside (Leaf id) up bit (slice_index_or (code_of key) bit false)

-- a shape of the tree, with a hole that `up` is the place of and that `at` points into
pub record IsHole (f : Leaves) (g : Forks) (root : Option Down) (pairs : KeyList) (c : ShapeContext)
    (s : Shape) (up : Option Up) (at : Down) : Type 0 where
  pub stands : StandsAs f g root (Some (plug c s)) pairs
  pub around : SurroundsAt f g root c at
  pub inside : HangsAt f g (hole_up c) s at
  pub up_is : up ≡ hole_up c

-- the search for a key came to a hole
pub record Reaches (f : Leaves) (g : Forks) (root : Option Down) (pairs : KeyList) (key : List Bool)
    (up : Option Up) (at : Down) (depth : ℕ) : Type 0 where
  pub context : ShapeContext
  pub here : Shape
  pub hole : IsHole f g root pairs context here up at
  pub leads : IsPrefix (hole_shared context) (code_of key)
  pub deep : depth ≡ length (hole_shared context)

-- the leaf of the key
pub record IsSame (f : Leaves) (g : Forks) (root : Option Down) (pairs : KeyList) (key : List Bool)
    (front : ℕ) : Type 0 where
  pub context : ShapeContext
  pub more : List ℕ
  pub up : Option Up
  pub at : Down
  pub hole : IsHole f g root pairs context (leaf key front more) up at

-- the place of the key's own leaf, beside what is there
pub record IsBeside (f : Leaves) (g : Forks) (root : Option Down) (pairs : KeyList)
    (key : List Bool) (at : Down) (up : Option Up) (bit : ℕ) (right : Bool) : Type 0 where
  pub context : ShapeContext
  pub here : Shape
  pub hole : IsHole f g root pairs context here up at
  pub shared : List Bool
  pub long : length shared ≡ bit
  pub leads : IsPrefix (shared ++ right ∷ []) (code_of key)
  pub keyed : IsKeyed (shared ++ not right ∷ []) here
  pub under : IsPrefix (hole_shared context) shared

abbrev pub IsSeat : Leaves → Forks → Option Down → KeyList → List Bool → Option Seat → Type 0
IsSeat f g root pairs key None = StandsAs f g root None pairs
IsSeat f g root pairs key (Some (Same front)) = IsSame f g root pairs key front
IsSeat f g root pairs key (Some (Beside at up bit right)) =
    IsBeside f g root pairs key at up bit right

-- the way down to a key came to a shape in which all pairs with the key are
pub record IsOnWayTo (f : Leaves) (g : Forks) (pairs : KeyList) (key : List Bool) (at : Down)
    (depth : ℕ) : Type 0 where
  pub up : Option Up
  pub here : Shape
  pub shared : List Bool
  pub hangs : HangsAt f g up here at
  pub keyed : IsKeyed shared here
  pub deep : depth ≡ length shared
  pub same : numbers_of key pairs ≡ numbers_of key (pairs_of here)

-- the number of a leaf, or none where a branch is
abbrev pub leaf_number : Down → Option ℕ
leaf_number (Leaf id) = Some id
leaf_number (Branch h) = None

-- the number of the leaf whose key ends at a branch, where the search passes it: it goes to this
-- side, and the leaf is on the other
abbrev pub ending_of : Bool → Fork → Option ℕ
ending_of false b = None
ending_of true b = if b.bit % 2 == 0 then leaf_number b.left else None

-- the best at a leaf, whose key is this long, by where its code parts from the key's
abbrev pub leaf_longest_of : ℕ → ℕ → Option ℕ → Option ℕ → Option ℕ
leaf_longest_of id len None best = Some id
leaf_longest_of id len (Some at) best = if at == len * 2 then Some id else best
