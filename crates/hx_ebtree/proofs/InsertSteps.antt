-- What the search for a new node's key says of the node's place, and what else changes there.
use Rattle.std.proofs.Common.{◌≡◌, ◌≢◌, ℕ, ◌+◌, ◌*◌, ◌<◌, Bool, true, false, List, [], ◌∷◌, ◌++◌, length, Option, Some, None, refl, sym, ap, subst, ◌∙◌, inl, inr, arith, length-append}
use Rattle.std.specs.Option.{option_map}
use Rattle.hx_pool.specs.Pool.{Pool, get, IsLive}
use Rattle.hx_pool.specs.Chain.{IsIn, LiesAt}
use Rattle.hx_ebtree.specs.declared.node.Down.{Down}
use Rattle.hx_ebtree.specs.declared.node.Down.TheVariants.{Leaf, Branch}
use Rattle.hx_ebtree.specs.declared.node.Up.{Up}
use Rattle.hx_ebtree.specs.declared.node.Node.{Node}
use Rattle.hx_ebtree.specs.Node.{key_of}
use Rattle.hx_ebtree.specs.Bits.{bits_of, code_of}
use Rattle.hx_ebtree.specs.KeyList.{KeyList, IsOff}
use Rattle.hx_ebtree.specs.Shape.{Shape, leaf, fork, holders, all_of, none_of, nothing_of, only_of, LeafPart, Leaves, Forks, links_in, HangsAt}
use Rattle.hx_ebtree.specs.ShapeContext.{ShapeContext, root, on_left, on_right, plug, hole_up, SurroundsAt}
use Rattle.hx_ebtree.specs.Change.{node_of, PutsLeaf, Pushes, PutsFork}
use Rattle.hx_ebtree.specs.Tree.{leaf_part, leaves_of, forks_of, StandsAs}
use Rattle.hx_ebtree.specs.Seat.{IsSame, IsBeside}
use Rattle.hx_ebtree.proofs.BitLemmas.{code_length}
use Rattle.hx_ebtree.proofs.CodeLemmas.{prefix_length}
use Rattle.hx_ebtree.proofs.ShapeLemmas.{plug_in}
use Rattle.hx_ebtree.proofs.ChangeLemmas.{down_leaf, down_branch, hole_in}
use Rattle.hx_ebtree.proofs.WholeLemmas.{holder_number}
use Rattle.hx_ebtree.proofs.SeekLemmas.{bits_seen, key_live, fork_live}
use Rattle.hx_ebtree.proofs.StandLemmas.{number_listed, stands_beside, stands_alone, stands_same}

-- what a place of the tree names is none of the numbers that aren't listed
module _ (f : Leaves) (g : Forks) (at_root : Option Down) (pairs : KeyList) (key : List Bool) (k : ℕ) (off : IsOff k pairs) where
  pub off_chain : (front : ℕ) (r : IsSame f g at_root pairs key front) → IsIn k (front ∷ r.more) → ⊥
  off_chain front r p =
      let s = leaf key front r.more in
      off (number_listed f g at_root (plug r.context s) pairs r.hole.stands k (plug_in all_of nothing_of r.context s k (inl p)))

  off_held : (c : ShapeContext) (s : Shape) → StandsAs f g at_root (Some (plug c s)) pairs → IsIn k (holders (plug c s)) → ⊥
  off_held c s whole p = off (number_listed f g at_root (plug c s) pairs whole k (holder_number (plug c s) k whole.sound.above p))

  module _ (at : Down) (up : Option Up) (bit : ℕ) (right : Bool) (r : IsBeside f g at_root pairs key at up bit right) where
    pub off_at : k ≢ node_of at
    off_at e = by at r.hole.inside e
      where
        by : (d : Down) → HangsAt f g (hole_up r.context) r.here d → k ≡ node_of d → ⊥
        by (Leaf j) inside same = off (number_listed f g at_root (plug r.context r.here) pairs r.hole.stands k
            (plug_in all_of nothing_of r.context r.here k (inl (down_leaf f g (hole_up r.context) r.here (Leaf j) k inside (ap Leaf (sym same))))))
        by (Branch j) inside same = off_held r.context r.here r.hole.stands
            (plug_in none_of only_of r.context r.here k (inl (down_branch f g (hole_up r.context) r.here (Branch j) k inside (ap Branch (sym same)))))

    pub off_up : (u : Up) → up ≡ Some u → u.node ≢ k
    off_up u is same = off_held r.context r.here r.hole.stands
        (plug_in none_of only_of r.context r.here k (inr (hole_in r.context u k (sym r.hole.up_is ∙ is) same)))

module _ {V : Type 0} where
  some_same : (a b : Node V) → Some a ≡ Some b → a ≡ b
  some_same a b e = cc

  leaf_live : (p : Pool (Node V)) (id : ℕ) (part : LeafPart) → leaves_of p id ≡ Some part → IsLive p id
  leaf_live p id part here = key_live p id part.key (ap (option_map (λ (w : LeafPart). w.key)) here)

  hung_live : (p : Pool (Node V)) (up : Option Up) (s : Shape) (down : Down) → HangsAt (leaves_of p) (forks_of p) up s down → IsLive p (node_of down)
  hung_live p up (leaf key id more) down at = subst (λ d. IsLive p (node_of d)) (sym at.points) (leaf_live p id at.part at.here)
  hung_live p up (fork h sh l r) down at = subst (λ d. IsLive p (node_of d)) (sym at.2.points) (fork_live p h _ at.2.here)

  above_live : (p : Pool (Node V)) (at_root : Option Down) (c : ShapeContext) (down : Down) → SurroundsAt (leaves_of p) (forks_of p) at_root c down → (u : Up) → hole_up c ≡ Some u → IsLive p u.node
  above_live p at_root root down a u e = cc
  above_live p at_root (on_left c h sh r) down a u e =
      let same : record { node = h; right = false } ≡ u = cc in
      subst (λ (w : Up). IsLive p w.node) same (fork_live p h _ a.1.here)
  above_live p at_root (on_right c h sh l) down a u e =
      let same : record { node = h; right = true } ≡ u = cc in
      subst (λ (w : Up). IsLive p w.node) same (fork_live p h _ a.1.here)

  module _ (p : Pool (Node V)) (at_root : Option Down) (pairs : KeyList) (key : List Bool) where
    pub same_lies : (id : ℕ) → IsOff id pairs → (front : ℕ) → IsSame (leaves_of p) (forks_of p) at_root pairs key front
        → (part : LeafPart) × (more : List ℕ) × (leaves_of p front ≡ Some part) × LiesAt (links_in (leaves_of p)) part.chain (front ∷ more) × (IsIn id (front ∷ more) → ⊥)
    same_lies id off front r =
        let at = r.hole.inside in
        (at.part, r.more, at.here, at.lies, off_chain (leaves_of p) (forks_of p) at_root pairs key id off front r)

    module _ (at : Down) (up : Option Up) (bit : ℕ) (right : Bool) (r : IsBeside (leaves_of p) (forks_of p) at_root pairs key at up bit right) where
      pub at_live : IsLive p (node_of at)
      at_live = hung_live p (hole_up r.context) r.here at r.hole.inside

      pub up_live : (u : Up) → up ≡ Some u → IsLive p u.node
      up_live u e = above_live p at_root r.context at r.hole.around u (sym r.hole.up_is ∙ e)

  -- the key that was looked for is the node's
  pub sought : (p : Pool (Node V)) (id : ℕ) (n node : Node V) (bytes : List ℕ) (len : ℕ) → get p id ≡ Some n → get p id ≡ Some node → bits_of bytes (length n.key) ≡ n.key → len ≡ length n.key → bits_of bytes len ≡ key_of node
  sought p id n node bytes len at is e f =
      bits_seen bytes len n.key e f ∙ ap (λ (m : Node V). m.key) (some_same n node (sym at ∙ is))

  module _ (p q : Pool (Node V)) (at_root root' : Option Down) (pairs : KeyList) (id : ℕ) (node : Node V) (is : get p id ≡ Some node) (key : List Bool) (key_is : key ≡ key_of node) (off : IsOff id pairs) where
    here : leaves_of p id ≡ Some (leaf_part node)
    here = ap (option_map leaf_part) is

    abbrev pub StandsWith : Type 0
    StandsWith = (shape : Option Shape) × StandsAs (leaves_of q) (forks_of q) root' shape (pairs ++ (key_of node, id) ∷ [])

    pub alone_stands : StandsAs (leaves_of p) (forks_of p) at_root None pairs → PutsLeaf (leaves_of p) (forks_of p) (leaves_of q) (forks_of q) id None None → root' ≡ Some (Leaf id) → StandsWith
    alone_stands whole put top = stands_alone (leaves_of p) (forks_of p) at_root (leaves_of q) (forks_of q) root' pairs (key_of node) id (leaf_part node) here refl off whole put top

    pub same_stands : (front : ℕ) → IsSame (leaves_of p) (forks_of p) at_root pairs key front → Pushes (leaves_of p) (forks_of p) (leaves_of q) (forks_of q) front id → root' ≡ at_root → StandsWith
    same_stands front r push top = stands_same (leaves_of p) (forks_of p) at_root (leaves_of q) (forks_of q) root' pairs (key_of node) id (leaf_part node) here refl off front
        (subst (λ k. IsSame (leaves_of p) (forks_of p) at_root pairs k front) key_is r) push top

    pub beside_stands : (at : Down) (up : Option Up) (bit : ℕ) (right : Bool) → IsBeside (leaves_of p) (forks_of p) at_root pairs key at up bit right → PutsFork (leaves_of p) (forks_of p) at_root (leaves_of q) (forks_of q) root' id at up bit right → StandsWith
    beside_stands at up bit right r put = stands_beside (leaves_of p) (forks_of p) at_root (leaves_of q) (forks_of q) root' pairs (key_of node) id (leaf_part node) here refl off at up bit right
        (subst (λ k. IsBeside (leaves_of p) (forks_of p) at_root pairs k at up bit right) key_is r) put

-- where the codes part is within the key's
pub beside_within : (f : Leaves) (g : Forks) (at_root : Option Down) (pairs : KeyList) (key : List Bool) (at : Down) (up : Option Up) (bit : ℕ) (right : Bool) → IsBeside f g at_root pairs key at up bit right → bit < 2 * length key + 1
beside_within f g at_root pairs key at up bit right r =
    omega (arith, r.long, prefix_length (r.shared ++ right ∷ []) (code_of key) r.leads, length-append r.shared (right ∷ []), code_length key)
