-- What trees and chains keep while other slots of their pool change. For callers of trees.
use Rattle.std.proofs.Common.{◌≡◌, ℕ, ◌==◌, Bool, true, false, cond, List, [], ◌∷◌, ◌++◌, Option, Some, None, IsSome, refl, sym, ap, subst, ◌∙◌, inl, inr, arith}
use Rattle.std.proofs.lemmas.Bool.Decides.{nat_tests}
use Rattle.std.specs.Option.{option_map, option_and_then}
use Rattle.hx_pool.specs.declared.chain.Chain.{Chain}
use Rattle.hx_pool.specs.Pool.{Pool, get, IsLive, Updates}
use Rattle.hx_pool.specs.Chain.{IsIn, LiesIn, links_at}
use Rattle.hx_pool.proofs.ChainLemmas.{in_right, in_either, first_in, lies_frame}
use Rattle.hx_ebtree.specs.declared.node.Down.{Down}
use Rattle.hx_ebtree.specs.declared.node.Up.{Up}
use Rattle.hx_ebtree.specs.declared.node.Node.{Node}
use Rattle.hx_ebtree.specs.declared.tree.Tree.{Tree}
use Rattle.hx_ebtree.specs.Node.{links_of}
use Rattle.hx_ebtree.specs.KeyList.{KeyList, numbers_of, exact_of, ids_of, IsOff, Lists, without}
use Rattle.hx_ebtree.specs.Shape.{Shape, leaf, fork, pairs_of, numbers, Leaves, Forks, key_in, left_of, right_of, HangsAt}
use Rattle.hx_ebtree.specs.Tree.{leaf_part, leaves_of, forks_of, StandsAs, Stands}
use Rattle.hx_ebtree.proofs.PairLemmas.{listed_same, keyed_listed, exact_is, ids_append}
use Rattle.hx_ebtree.proofs.KeyedLemmas.{shape_ids}
use Rattle.hx_ebtree.proofs.SeekLemmas.{key_live}
use Rattle.hx_ebtree.proofs.StandLemmas.{stands_frame}

-- each number of a shape that hangs somewhere has a key
numbers_keyed : (f : Leaves) (g : Forks) (up : Option Up) (s : Shape) (down : Down) (k : ℕ) → HangsAt f g up s down → IsIn k (numbers s) → (key : List Bool) × (key_in f k ≡ Some key)
numbers_keyed f g up (leaf key id more) down k at p = (key, at.keys k p)
numbers_keyed f g up (fork h sh l r) down k at p = elim (in_either (numbers l) (numbers r) k p) [
  | inl a ↦ numbers_keyed f g (left_of h) l at.0 k at.3 a
  | inr b ↦ numbers_keyed f g (right_of h) r at.1 k at.4 b
]

module _ {V : Type 0} where
  -- a chain and a tree keep what they stand for where their own slots keep their values
  pub chain_frame : (p q : Pool (Node V)) (c : Chain) (xs : List ℕ) → ((k : ℕ) → IsIn k xs → get q k ≡ get p k) → LiesIn links_of p c xs → LiesIn links_of q c xs
  chain_frame p q c xs same lies = lies_frame (links_at links_of p) (links_at links_of q) c xs (λ k there. ap (option_map links_of) (same k there)) lies

  pub tree_frame : (p q : Pool (Node V)) (t : Tree) (pairs : KeyList) → ((k : ℕ) → Lists pairs k → get q k ≡ get p k) → Stands p t pairs → Stands q t pairs
  tree_frame p q t pairs same stands = record {
    shape = stands.shape;
    stands = stands_frame (leaves_of p) (leaves_of q) (forks_of p) (forks_of q) t.root stands.shape pairs
        (λ k there. ap (option_map leaf_part) (same k there)) (λ k there. ap (option_and_then (λ (n : Node V). n.branch)) (same k there)) stands.stands;
  }

  -- a tree stands for each list with the same numbers for each key
  pub tree_order : (p : Pool (Node V)) (t : Tree) (xs ys : KeyList) → ((key : List Bool) → numbers_of key ys ≡ numbers_of key xs) → Stands p t xs → Stands p t ys
  tree_order p t xs ys same stands = record {
    shape = stands.shape;
    stands = record { hangs = stands.stands.hangs; sound = stands.stands.sound; idle = stands.stands.idle; same = λ key. same key ∙ stands.stands.same key };
  }

  listed_in : (p : Pool (Node V)) (root : Option Down) (shape : Option Shape) (pairs : KeyList) (k : ℕ) → StandsAs (leaves_of p) (forks_of p) root shape pairs → Lists pairs k → IsLive p k
  listed_in p root None pairs k stands there = absurd (listed_same pairs [] stands.same k there)
  listed_in p root (Some s) pairs k stands there =
      let w = numbers_keyed (leaves_of p) (forks_of p) None s stands.hangs.0 k stands.hangs.2 (subst (IsIn k) (shape_ids s) (listed_same pairs (pairs_of s) stands.same k there)) in
      key_live p k w.0 w.1

  -- the numbers of a tree are live
  pub listed_live : (p : Pool (Node V)) (t : Tree) (pairs : KeyList) (k : ℕ) → Stands p t pairs → Lists pairs k → IsLive p k
  listed_live p t pairs k stands there = listed_in p t.root stands.shape pairs k stands.stands there

  not_free : (o : Option (Node V)) → o ≡ None → IsSome o → ⊥
  not_free None e live = cc
  not_free (Some n) e live = cc

  -- a number that was free is in no tree
  pub free_off : (p : Pool (Node V)) (t : Tree) (pairs : KeyList) (id : ℕ) → Stands p t pairs → get p id ≡ None → IsOff id pairs
  free_off p t pairs id stands free there = not_free (get p id) free (listed_live p t pairs id stands there)

  -- a tree stands as before once a slot that it doesn't use is taken, given back or written
  pub tree_updated : (p q : Pool (Node V)) (t : Tree) (pairs : KeyList) (id : ℕ) (value : Option (Node V)) → Updates p q id value → IsOff id pairs → Stands p t pairs → Stands q t pairs
  tree_updated p q t pairs id value u off stands =
      tree_frame p q t pairs (λ k there. u.others k (λ e. off (subst (Lists pairs) e there))) stands

-- the number that a key is found by is listed, and one that was taken out is not
pub exact_listed : (pairs : KeyList) (key : List Bool) (id : ℕ) → exact_of pairs key ≡ Some id → Lists pairs id
exact_listed pairs key id e = keyed_listed key pairs id (first_in (numbers_of key pairs) id (sym (exact_is pairs key) ∙ e))

pub gone_off : (id : ℕ) (pairs : KeyList) → IsOff id (without id pairs)
gone_off id [] p = p
gone_off id (x ∷ pairs) p = by (x.1 == id) refl p (gone_off id pairs)
  where
    by : (b : Bool) → (x.1 == id) ≡ b → IsIn id (ids_of (cond b (without id pairs) (x ∷ without id pairs))) → (IsIn id (ids_of (without id pairs)) → ⊥) → ⊥
    by true e q off = off q
    by false e (inl same) off = grind (arith, nat_tests)
    by false e (inr q) off = off q

-- the number that was put in last is listed
pub last_listed : (pairs : KeyList) (key : List Bool) (id : ℕ) → Lists (pairs ++ (key, id) ∷ []) id
last_listed pairs key id = subst (IsIn id) (sym (ids_append pairs ((key, id) ∷ []))) (in_right (ids_of pairs) (id ∷ []) id (inl refl))
