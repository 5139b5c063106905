-- The way down to a key, on which no key is read.
use Rattle.std.proofs.Common.{◌≡◌, ◌∙◌, ℕ, ◌+◌, ◌*◌, ◌<◌, ◌≤◌, Bool, true, false, List, [], ◌∷◌, ◌++◌, length, get_or, Option, Some, None, refl, sym, ap, subst, arith, length-append, true≢false}
use Rattle.std.proofs.lemmas.List.{append-nil}
use Rattle.hx_pool.specs.Pool.{Pool, get, IsLive}
use Rattle.hx_pool.specs.Chain.{first_or}
use Rattle.hx_ebtree.specs.declared.node.Down.{Down}
use Rattle.hx_ebtree.specs.declared.node.Down.TheVariants.{Leaf, Branch}
use Rattle.hx_ebtree.specs.declared.node.Up.{Up}
use Rattle.hx_ebtree.specs.declared.node.Branch.{Branch as Fork}
use Rattle.hx_ebtree.specs.declared.node.Node.{Node}
use Rattle.hx_ebtree.specs.Bits.{code_of, IsPrefix}
use Rattle.hx_ebtree.specs.KeyList.{KeyList, exact_of, numbers_of, is_same_key}
use Rattle.hx_ebtree.specs.Shape.{Shape, leaf, fork, pairs_of, with_key, IsKeyed, Leaves, Forks, key_in, left_of, right_of, HangsAt}
use Rattle.hx_ebtree.specs.Tree.{leaves_of, forks_of, StandsAs}
use Rattle.hx_ebtree.specs.Seat.{side_of, IsOnWayTo}
use Rattle.hx_ebtree.proofs.BitLemmas.{code_length}
use Rattle.hx_ebtree.proofs.CodeLemmas.{prefix_length, prefix_bit}
use Rattle.hx_ebtree.proofs.PairLemmas.{exact_is, key_is, numbers_append, numbers_with, numbers_other}
use Rattle.hx_ebtree.proofs.KeyedLemmas.{none_below}
use Rattle.hx_ebtree.proofs.SeekLemmas.{IsLeafHere, leaf_here, IsForkHere, fork_here, key_live, fork_live, fork_seen}

by_numbers : (pairs : KeyList) (x : List Bool) (xs : List ℕ) (o : Option ℕ) → numbers_of x pairs ≡ xs → o ≡ first_or xs None → o ≡ exact_of pairs x
by_numbers pairs x xs o e f = f ∙ sym (exact_is pairs x ∙ ap (λ l. first_or l None) e)

pub some_same : {A : Type 0} {a b : A} → Some a ≡ Some b → a ≡ b
some_same e = cc

module _ (f : Leaves) (g : Forks) (root : Option Down) (pairs : KeyList) (x : List Bool) where
  pub way_to_root : (shape : Option Shape) (down : Down) → root ≡ Some down → StandsAs f g root shape pairs → IsOnWayTo f g pairs x down 0
  way_to_root None down e stands = let none = stands.hangs in cc
  way_to_root (Some s) down e stands =
      let is = stands.hangs.1 in let same : stands.hangs.0 ≡ down = cc in
      record { up = None; here = s; shared = []; hangs = subst (HangsAt f g None s) same stands.hangs.2; keyed = stands.sound.keyed; deep = refl; same = stands.same x }

  pub none_at_root : (shape : Option Shape) → root ≡ None → StandsAs f g root shape pairs → None ≡ exact_of pairs x
  none_at_root None e stands = by_numbers pairs x [] None (stands.same x) refl
  none_at_root (Some s) e stands = let is = stands.hangs.1 in cc

module _ (f : Leaves) (g : Forks) (pairs : KeyList) (x : List Bool) (id depth : ℕ) where
  -- at a leaf
  module _ (r : IsOnWayTo f g pairs x (Leaf id) depth) (y : List Bool) (seen : key_in f id ≡ Some y) where
    at_leaf : IsLeafHere f g r.here id
    at_leaf = leaf_here f g r.up r.here id r.hangs

    same_key : at_leaf.key ≡ y
    same_key = let a = at_leaf.seen in cc

    at_key : numbers_of x pairs ≡ numbers_of x (with_key y (id ∷ at_leaf.more))
    at_key = r.same ∙ ap (λ s. numbers_of x (pairs_of s)) (at_leaf.shape ∙ ap (λ k. leaf k id at_leaf.more) same_key)

    pub exact_here : is_same_key y x ≡ true → Some id ≡ exact_of pairs x
    exact_here e =
        by_numbers pairs x (id ∷ at_leaf.more) (Some id)
        (at_key ∙ ap (λ k. numbers_of x (with_key k (id ∷ at_leaf.more))) (key_is y x e) ∙ numbers_with x (id ∷ at_leaf.more)) refl

    pub exact_nowhere : is_same_key y x ≡ false → None ≡ exact_of pairs x
    exact_nowhere e = by_numbers pairs x [] None (at_key ∙ numbers_other x y (id ∷ at_leaf.more) e) refl

  -- at a fork
  module _ (r : IsOnWayTo f g pairs x (Branch id) depth) (b : Fork) (here : g id ≡ Some b) where
    at_fork : IsForkHere f g r.here r.up id
    at_fork = fork_here f g r.up r.here id r.hangs

    is : b ≡ record { bit = length at_fork.shared; left = at_fork.to_left; right = at_fork.to_right; up = r.up }
    is = some_same (sym here ∙ at_fork.here)

    limit : b.bit ≡ length at_fork.shared
    limit = ap (λ (w : Fork). w.bit) is

    keyed : IsKeyed r.shared (fork id at_fork.shared at_fork.left at_fork.right)
    keyed = subst (IsKeyed r.shared) at_fork.shape r.keyed

    both : numbers_of x pairs ≡ numbers_of x (pairs_of at_fork.left) ++ numbers_of x (pairs_of at_fork.right)
    both = r.same ∙ ap (λ s. numbers_of x (pairs_of s)) at_fork.shape ∙ numbers_append x (pairs_of at_fork.left) (pairs_of at_fork.right)

    left_none : (IsPrefix (at_fork.shared ++ false ∷ []) (code_of x) → ⊥) → numbers_of x pairs ≡ numbers_of x (pairs_of at_fork.right)
    left_none off = both ∙ ap (λ w. w ++ numbers_of x (pairs_of at_fork.right)) (none_below (at_fork.shared ++ false ∷ []) at_fork.left x keyed.1 off)

    right_none : (IsPrefix (at_fork.shared ++ true ∷ []) (code_of x) → ⊥) → numbers_of x pairs ≡ numbers_of x (pairs_of at_fork.left)
    right_none off =
        both ∙ ap (λ w. numbers_of x (pairs_of at_fork.left) ++ w) (none_below (at_fork.shared ++ true ∷ []) at_fork.right x keyed.2 off)
        ∙ append-nil (numbers_of x (pairs_of at_fork.left))

    pub way_is_deeper : depth ≤ b.bit
    way_is_deeper = omega (arith, limit, r.deep, prefix_length r.shared at_fork.shared keyed.0)

    -- one step further down
    pub way_goes_on : (right : Bool) → right ≡ get_or (code_of x) b.bit false → IsOnWayTo f g pairs x (side_of right b) (b.bit + 1)
    way_goes_on right e = by right (e ∙ ap (λ k. get_or (code_of x) k false) limit)
      where
        by : (side : Bool) → side ≡ get_or (code_of x) (length at_fork.shared) false → IsOnWayTo f g pairs x (side_of side b) (b.bit + 1)
        by false e' = record {
          up = left_of id;
          here = at_fork.left;
          shared = at_fork.shared ++ false ∷ [];
          hangs = subst (HangsAt f g (left_of id) at_fork.left) (sym (ap (λ (w : Fork). w.left) is)) at_fork.hangs_left;
          keyed = keyed.1;
          deep = omega (arith, limit, length-append at_fork.shared (false ∷ []));
          same = right_none (λ q. true≢false (sym (prefix_bit at_fork.shared true (code_of x) q) ∙ sym e'));
        }
        by true e' = record {
          up = right_of id;
          here = at_fork.right;
          shared = at_fork.shared ++ true ∷ [];
          hangs = subst (HangsAt f g (right_of id) at_fork.right) (sym (ap (λ (w : Fork). w.right) is)) at_fork.hangs_right;
          keyed = keyed.2;
          deep = omega (arith, limit, length-append at_fork.shared (true ∷ []));
          same = left_none (λ q. true≢false (e' ∙ prefix_bit at_fork.shared false (code_of x) q));
        }

    -- no key below is as short as this one
    pub key_ends_above : 2 * length x < b.bit → None ≡ exact_of pairs x
    key_ends_above short =
        by_numbers pairs x [] None
        (left_none (λ q. absurd (omega (arith, limit, prefix_length (at_fork.shared ++ false ∷ []) (code_of x) q, length-append at_fork.shared (false ∷ []), code_length x)))
        ∙ none_below (at_fork.shared ++ true ∷ []) at_fork.right x keyed.2
        (λ q. absurd (omega (arith, limit, prefix_length (at_fork.shared ++ true ∷ []) (code_of x) q, length-append at_fork.shared (true ∷ []), code_length x)))) refl

-- what hangs somewhere is in a live node
module _ {V : Type 0} (p : Pool (Node V)) (up : Option Up) (s : Shape) (id : ℕ) where
  pub leaf_lives : HangsAt (leaves_of p) (forks_of p) up s (Leaf id) → IsLive p id
  leaf_lives at = let h = leaf_here (leaves_of p) (forks_of p) up s id at in key_live p id h.key h.seen

  pub fork_lives : HangsAt (leaves_of p) (forks_of p) up s (Branch id) → IsLive p id
  fork_lives at = let h = fork_here (leaves_of p) (forks_of p) up s id at in fork_live p id _ h.here

  pub fork_is_there : (n : Node V) → get p id ≡ Some n → n.branch ≡ None → HangsAt (leaves_of p) (forks_of p) up s (Branch id) → ⊥
  fork_is_there n got none at = let h = fork_here (leaves_of p) (forks_of p) up s id at in let a = h.here in let b = fork_seen p id n got in cc
