-- What a key that is looked for has in common with one that is met on the way down.
use Rattle.std.proofs.Common.{◌≡◌, ℕ, ◌/◌, ◌≤◌, List, length, Option, Some, sym, subst}
use Rattle.hx_pool.specs.Pool.{Pool, get}
use Rattle.hx_ebtree.specs.declared.node.Down.{Down}
use Rattle.hx_ebtree.specs.declared.node.Down.TheVariants.{Leaf, Branch}
use Rattle.hx_ebtree.specs.declared.node.Up.{Up}
use Rattle.hx_ebtree.specs.declared.node.Branch.{Branch as Fork}
use Rattle.hx_ebtree.specs.declared.node.Node.{Node}
use Rattle.hx_ebtree.specs.Bits.{bits_of, code_of, IsPrefix, HaveInCommon}
use Rattle.hx_ebtree.specs.KeyList.{KeyList}
use Rattle.hx_ebtree.specs.Shape.{leaf, IsKeyed}
use Rattle.hx_ebtree.specs.ShapeContext.{hole_up, hole_shared}
use Rattle.hx_ebtree.specs.Tree.{leaves_of, forks_of}
use Rattle.hx_ebtree.specs.Seat.{Reaches}
use Rattle.hx_ebtree.proofs.CodeLemmas.{prefix_on}
use Rattle.hx_ebtree.proofs.KeyedLemmas.{keyed_hole}
use Rattle.hx_ebtree.proofs.SeekLemmas.{leaf_here, node_key, bits_seen, fork_read, depth_below}
use Rattle.hx_ebtree.proofs.SplitLemmas.{have_in_common}

module _ {V : Type 0} (p : Pool (Node V)) (at_root : Option Down) (pairs : KeyList) (a : List ℕ) (m : ℕ) (up : Option Up) (id depth : ℕ) (n : Node V) (got : get p id ≡ Some n) where
  leaf_leads : (r : Reaches (leaves_of p) (forks_of p) at_root pairs (bits_of a m) up (Leaf id) depth) → IsPrefix (hole_shared r.context) (code_of n.key)
  leaf_leads r =
      let h = leaf_here (leaves_of p) (forks_of p) (hole_up r.context) r.here id r.hole.inside in
      let keyed : IsKeyed (hole_shared r.context) (leaf h.key id h.more) = subst (IsKeyed (hole_shared r.context)) h.shape (keyed_hole r.context r.here r.hole.stands.sound.keyed) in
      subst (λ k. IsPrefix (hole_shared r.context) (code_of k)) (sym (node_key p id n got h.key h.seen)) keyed

  pub fork_deep : (r : Reaches (leaves_of p) (forks_of p) at_root pairs (bits_of a m) up (Branch id) depth) (fork : Fork) → n.branch ≡ Some fork → depth ≤ fork.bit
  fork_deep r fork is = depth_below (leaves_of p) (forks_of p) at_root pairs (bits_of a m) up id depth r n.key fork (fork_read p at_root pairs (bits_of a m) up id depth r n got fork is)

  module _ (b : List ℕ) (len : ℕ) (bits : bits_of b (length n.key) ≡ n.key) (long : len ≡ length n.key) where
    pub leaf_common : Reaches (leaves_of p) (forks_of p) at_root pairs (bits_of a m) up (Leaf id) depth → HaveInCommon a m b len (depth / 2)
    leaf_common r =
        have_in_common (hole_shared r.context) a m b len depth r.deep r.leads
        (subst (λ k. IsPrefix (hole_shared r.context) (code_of k)) (sym (bits_seen b len n.key bits long)) (leaf_leads r))

    pub fork_common : Reaches (leaves_of p) (forks_of p) at_root pairs (bits_of a m) up (Branch id) depth → (fork : Fork) → n.branch ≡ Some fork → HaveInCommon a m b len (depth / 2)
    fork_common r fork is =
        let at = fork_read p at_root pairs (bits_of a m) up id depth r n got fork is in
        have_in_common (hole_shared r.context) a m b len depth r.deep r.leads
        (subst (λ k. IsPrefix (hole_shared r.context) (code_of k)) (sym (bits_seen b len n.key bits long)) (prefix_on (hole_shared r.context) at.branch.shared (code_of n.key) at.keyed.0 at.below))
