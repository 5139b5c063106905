-- The node that a root leads to.
use Rattle.std.proofs.Common.{◌≡◌, ℕ, [], ◌++◌, Option, Some, None, sym, ap, ◌∙◌, inl}
use Rattle.hx_pool.specs.Chain.{IsIn}
use Rattle.hx_pool.proofs.ChainLemmas.{in_same}
use Rattle.hx_ebtree.specs.declared.node.Down.{Down}
use Rattle.hx_ebtree.specs.declared.node.Up.{Up}
use Rattle.hx_ebtree.specs.KeyList.{KeyList}
use Rattle.hx_ebtree.specs.Shape.{Shape, leaf, fork, fronts, IsAbove, Leaves, Forks, HangsAt}
use Rattle.hx_ebtree.specs.Change.{node_of}
use Rattle.hx_ebtree.specs.Tree.{StandsAs}
use Rattle.hx_ebtree.specs.Remove.{IsFirst}
use Rattle.hx_ebtree.proofs.PairLemmas.{none_listed}

-- the node that a root leads to is the first of its key
down_front : (f : Leaves) (g : Forks) (up : Option Up) (s : Shape) (down : Down) → HangsAt f g up s down → IsAbove s → IsIn (node_of down) (fronts s)
down_front f g up (leaf key id more) down at above = inl (ap node_of at.points)
down_front f g up (fork h sh l r) down at above = in_same (fronts l ++ fronts r) (node_of down) h (sym (ap node_of at.2.points)) above.0

pub root_first : (f : Leaves) (g : Forks) (at_root : Option Down) (shape : Option Shape) (pairs : KeyList) (down : Down) (id : ℕ) → StandsAs f g at_root shape pairs → at_root ≡ Some down → id ≡ node_of down → IsFirst f g at_root id pairs
root_first f g at_root None pairs down id stands e is = let q : at_root ≡ None = stands.hangs in cc
root_first f g at_root (Some s) pairs down id stands e is =
    let d = stands.hangs.0 in
    let q : Some d ≡ Some down = sym stands.hangs.1 ∙ e in
    let same : d ≡ down = cc in
    record { whole = s; stands = stands; first = in_same (fronts s) id (node_of d) (ap node_of same ∙ sym is) (down_front f g None s d stands.hangs.2 stands.sound.above) }

pub root_none : (f : Leaves) (g : Forks) (at_root : Option Down) (shape : Option Shape) (pairs : KeyList) → StandsAs f g at_root shape pairs → at_root ≡ None → pairs ≡ []
root_none f g at_root None pairs stands e = none_listed pairs stands.same
root_none f g at_root (Some s) pairs stands e = let q : Some stands.hangs.0 ≡ None = sym stands.hangs.1 ∙ e in cc
