-- What the nodes that are read on the way to the longest prefix say of it.
use Rattle.std.proofs.Common.{◌≡◌, ℕ, ◌+◌, ◌*◌, ◌/◌, ◌<◌, ◌≤◌, Bool, false, List, length, get_or, Option, Some, None, sym, ap, subst, ◌∙◌, arith}
use Rattle.hx_pool.specs.Pool.{Pool, get}
use Rattle.hx_ebtree.specs.declared.node.Down.TheVariants.{Leaf, Branch}
use Rattle.hx_ebtree.specs.declared.node.Branch.{Branch as Fork}
use Rattle.hx_ebtree.specs.declared.node.Node.{Node}
use Rattle.hx_ebtree.specs.Bits.{bits_of, code_of, split_of, IsPrefix, HaveInCommon}
use Rattle.hx_ebtree.specs.KeyList.{KeyList, longest_of}
use Rattle.hx_ebtree.specs.Tree.{leaves_of, forks_of}
use Rattle.hx_ebtree.specs.Seat.{split_before_of, side_of, ending_of, leaf_longest_of}
use Rattle.hx_ebtree.proofs.BitLemmas.{bits_length}
use Rattle.hx_ebtree.proofs.SeekLemmas.{key_seen, fork_seen, bits_seen}
use Rattle.hx_ebtree.proofs.SplitLemmas.{have_in_common, in_common_back}
use Rattle.hx_ebtree.proofs.LongestLemmas.{longest_is}
use Rattle.hx_ebtree.proofs.LongestSteps.{IsOnWay, leaf_agreed, fork_is_deeper, agreed_here, end_at_leaf, end_at_short, end_at_split, step_way, step_past_key}

-- keys whose codes begin with what was compared have their first bits in common
common : (q : List Bool) (a : List ℕ) (n : ℕ) (b : List ℕ) (len checked : ℕ) (y : List Bool) → checked ≡ length q → IsPrefix q (code_of (bits_of a n)) → bits_of b (length y) ≡ y → len ≡ length y → IsPrefix q (code_of y) → HaveInCommon a n b len (checked / 2)
common q a n b len checked y long leads bits is_long begins =
    have_in_common q a n b len checked long leads (subst (λ k. IsPrefix q (code_of k)) (sym (bits_seen b len y bits is_long)) begins)

module _ {V : Type 0} (p : Pool (Node V)) (pairs : KeyList) (a : List ℕ) (n id depth checked : ℕ) (best : Option ℕ) (node : Node V) (got : get p id ≡ Some node) where
  -- at a leaf
  module _ (w : IsOnWay (leaves_of p) (forks_of p) pairs (bits_of a n) (Leaf id) depth checked best) (bytes : List ℕ) (len : ℕ) (bits : bits_of bytes (length node.key) ≡ node.key) (long : len ≡ length node.key) where
    pub leaf_in_common : HaveInCommon bytes len a n (checked / 2)
    leaf_in_common =
        in_common_back a n bytes len (checked / 2)
        (common w.agreed a n bytes len checked node.key w.long w.leads bits long
        (leaf_agreed (leaves_of p) (forks_of p) pairs (bits_of a n) id depth checked best w node.key (key_seen p id node got)))

    pub leaf_ends : (m : ℕ) (found r : Option ℕ) → m ≡ length node.key → found ≡ split_of (bits_of bytes len) (bits_of a n) → r ≡ leaf_longest_of id m found best → r ≡ longest_of pairs (bits_of a n)
    leaf_ends m found r counted split is =
        longest_is pairs (bits_of a n) r
        (end_at_leaf (leaves_of p) (forks_of p) pairs (bits_of a n) id depth checked best w node.key (key_seen p id node got) found
        (split ∙ ap (λ k. split_of k (bits_of a n)) (bits_seen bytes len node.key bits long)) r
        (is ∙ ap (λ l. leaf_longest_of id l found best) counted))

  -- at a fork
  module _ (w : IsOnWay (leaves_of p) (forks_of p) pairs (bits_of a n) (Branch id) depth checked best) (b : Fork) (part : node.branch ≡ Some b) where
    seen : forks_of p id ≡ Some b
    seen = fork_seen p id node got ∙ part

    pub fork_below : depth ≤ b.bit
    fork_below = fork_is_deeper (leaves_of p) (forks_of p) pairs (bits_of a n) id depth checked best w b seen

    pub fork_is_short : 2 * n < b.bit → best ≡ longest_of pairs (bits_of a n)
    fork_is_short short =
        longest_is pairs (bits_of a n) best
        (end_at_short (leaves_of p) (forks_of p) pairs (bits_of a n) id depth checked best w b seen (omega (arith, bits_length a n)))

    pub fork_passes : (right : Bool) → right ≡ get_or (code_of (bits_of a n)) b.bit false → ending_of right b ≡ None → IsOnWay (leaves_of p) (forks_of p) pairs (bits_of a n) (side_of right b) (b.bit + 1) checked best
    fork_passes right right_is none =
        step_way (leaves_of p) (forks_of p) pairs (bits_of a n) id depth checked best w b seen right right_is none

    module _ (bytes : List ℕ) (len : ℕ) (bits : bits_of bytes (length node.key) ≡ node.key) (long : len ≡ length node.key) where
      pub fork_in_common : HaveInCommon a n bytes len (checked / 2)
      fork_in_common =
          common w.agreed a n bytes len checked node.key w.long w.leads bits long
          (agreed_here (leaves_of p) (forks_of p) pairs (bits_of a n) id depth checked best w b seen node.key (key_seen p id node got))

      split_seen : (o : Option ℕ) → o ≡ split_before_of b.bit (split_of (bits_of a n) (bits_of bytes len)) → o ≡ split_before_of b.bit (split_of (bits_of a n) node.key)
      split_seen o is = is ∙ ap (λ k. split_before_of b.bit (split_of (bits_of a n) k)) (bits_seen bytes len node.key bits long)

      pub fork_splits : (at : ℕ) → Some at ≡ split_before_of b.bit (split_of (bits_of a n) (bits_of bytes len)) → best ≡ longest_of pairs (bits_of a n)
      fork_splits at is =
          longest_is pairs (bits_of a n) best
          (end_at_split (leaves_of p) (forks_of p) pairs (bits_of a n) id depth checked best w b seen node.key (key_seen p id node got) at (split_seen (Some at) is))

      pub fork_has_key : (right : Bool) (front : ℕ) → right ≡ get_or (code_of (bits_of a n)) b.bit false → ending_of right b ≡ Some front → b.bit < 2 * n + 1 → None ≡ split_before_of b.bit (split_of (bits_of a n) (bits_of bytes len)) → IsOnWay (leaves_of p) (forks_of p) pairs (bits_of a n) b.right (b.bit + 1) (b.bit + 1) (Some front)
      fork_has_key right front right_is ends within is =
          step_past_key (leaves_of p) (forks_of p) pairs (bits_of a n) id depth checked best w b seen right front right_is ends (omega (arith, bits_length a n)) node.key (key_seen p id node got) (split_seen None is)
