-- A shape around a hole, from the hole upwards. No public clause cites this module.
use Rattle.std.specs.Prelude.{◌≡◌, ℕ, Bool, true, false, List, [], ◌∷◌, ◌++◌, length, Option, Some, None}
use Rattle.hx_ebtree.specs.declared.node.Down.{Down}
use Rattle.hx_ebtree.specs.declared.node.Down.TheVariants.{Branch}
use Rattle.hx_ebtree.specs.declared.node.Up.{Up}
use Rattle.hx_ebtree.specs.Shape.{Shape, fork, gather, Leaves, Forks, left_of, right_of, IsForkAt, HangsAt}

pub data ShapeContext : Type 0 where
  root : ShapeContext
  -- what is above, the fork, what its codes share, and its other side
  on_left : ShapeContext → ℕ → List Bool → Shape → ShapeContext
  on_right : ShapeContext → ℕ → List Bool → Shape → ShapeContext

-- the shape with s in the hole
abbrev pub plug : ShapeContext → Shape → Shape
plug root s = s
plug (on_left c h shared r) s = plug c (fork h shared s r)
plug (on_right c h shared l) s = plug c (fork h shared l s)

-- where the hole hangs, and what the codes in it begin with
abbrev pub hole_up : ShapeContext → Option Up
hole_up root = None
hole_up (on_left c h shared r) = left_of h
hole_up (on_right c h shared l) = right_of h

abbrev pub hole_shared : ShapeContext → List Bool
hole_shared root = []
hole_shared (on_left c h shared r) = shared ++ false ∷ []
hole_shared (on_right c h shared l) = shared ++ true ∷ []

-- the numbers around the hole
abbrev pub around : (ℕ → List ℕ → List ℕ) → (ℕ → List ℕ) → ShapeContext → List ℕ
around at_leaf at_fork root = []
around at_leaf at_fork (on_left c h shared r) =
    at_fork h ++ (gather at_leaf at_fork r ++ around at_leaf at_fork c)
around at_leaf at_fork (on_right c h shared l) =
    at_fork h ++ (gather at_leaf at_fork l ++ around at_leaf at_fork c)

-- what is around the hole hangs at the root, and `down` is what the hole's side points to
abbrev pub SurroundsAt : Leaves → Forks → Option Down → ShapeContext → Down → Type 0
SurroundsAt f g at root down = at ≡ Some down
SurroundsAt f g at (on_left c h shared r) down = (right : Down)
    × IsForkAt g (hole_up c) h (length shared) down right (Branch h)
    × HangsAt f g (right_of h) r right × SurroundsAt f g at c (Branch h)
SurroundsAt f g at (on_right c h shared l) down = (left : Down)
    × IsForkAt g (hole_up c) h (length shared) left down (Branch h)
    × HangsAt f g (left_of h) l left × SurroundsAt f g at c (Branch h)
