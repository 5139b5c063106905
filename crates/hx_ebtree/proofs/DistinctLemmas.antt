-- The numbers of the pairs that a tree stands for are distinct.
use Rattle.std.proofs.Common.{◌≡◌, ◌⊎◌, ℕ, suc, ◌+◌, ◌==◌, Bool, true, false, cond, List, [], ◌∷◌, length, Option, Some, None, refl, sym, ap, subst, ◌∙◌, inl, inr, arith}
use Rattle.std.proofs.lemmas.Bool.Decides.{nat_tests}
use Rattle.hx_pool.specs.Pool.{Pool}
use Rattle.hx_pool.specs.Chain.{IsIn, AreDistinct}
use Rattle.hx_ebtree.specs.declared.node.Down.{Down}
use Rattle.hx_ebtree.specs.declared.node.Node.{Node}
use Rattle.hx_ebtree.specs.declared.tree.Tree.{Tree}
use Rattle.hx_ebtree.specs.KeyList.{KeyList, is_same_key, numbers_of, ids_of, Lists, IsOff, without}
use Rattle.hx_ebtree.specs.Shape.{Shape, pairs_of, Leaves, Forks}
use Rattle.hx_ebtree.specs.Tree.{StandsAs, Stands}
use Rattle.hx_ebtree.proofs.PairLemmas.{key_self, key_is, keyed_listed, listed_keyed}
use Rattle.hx_ebtree.proofs.KeyedLemmas.{shape_ids}

in_cond : (b : Bool) (x : ℕ) (xs : List ℕ) (k : ℕ) → IsIn k (cond b (x ∷ xs) xs) → ((b ≡ true) × (k ≡ x)) ⊎ IsIn k xs
in_cond true x xs k (inl e) = inl (refl, e)
in_cond true x xs k (inr p) = inr p
in_cond false x xs k p = inr p

cond_in : (b : Bool) (x : ℕ) (xs : List ℕ) (k : ℕ) → IsIn k xs → IsIn k (cond b (x ∷ xs) xs)
cond_in true x xs k p = inr p
cond_in false x xs k p = p

cond_here : (b : Bool) (x : ℕ) (xs : List ℕ) → b ≡ true → IsIn x (cond b (x ∷ xs) xs)
cond_here true x xs e = inl refl
cond_here false x xs e = cc

distinct_cond : (b : Bool) (x : ℕ) (xs : List ℕ) → (IsIn x xs → ⊥) → AreDistinct xs → AreDistinct (cond b (x ∷ xs) xs)
distinct_cond true x xs off d = (off, d)
distinct_cond false x xs off d = d

distinct_tail : (b : Bool) (x : ℕ) (xs : List ℕ) → AreDistinct (cond b (x ∷ xs) xs) → AreDistinct xs
distinct_tail true x xs d = d.1
distinct_tail false x xs d = d

distinct_first : (b : Bool) (x : ℕ) (xs : List ℕ) → b ≡ true → AreDistinct (cond b (x ∷ xs) xs) → IsIn x xs → ⊥
distinct_first true x xs e d = d.0
distinct_first false x xs e d = cc

-- the numbers of each key are distinct, and no two keys share one
record AreOwn (pairs : KeyList) : Type 0 where
  each : (key : List Bool) → AreDistinct (numbers_of key pairs)
  one : (key other : List Bool) (k : ℕ) → IsIn k (numbers_of key pairs) → IsIn k (numbers_of other pairs) → key ≡ other

own_distinct : (pairs : KeyList) → AreOwn pairs → AreDistinct (ids_of pairs)
own_distinct [] own = tt
own_distinct (pair ∷ pairs) own = (
  λ p.
      let q = listed_keyed pairs pair.1 p in
      let here = cond_here (is_same_key pair.0 pair.0) pair.1 (numbers_of pair.0 pairs) (key_self pair.0) in
      let same : pair.0 ≡ q.0 = own.one pair.0 q.0 pair.1 here (cond_in (is_same_key pair.0 q.0) pair.1 (numbers_of q.0 pairs) pair.1 q.1) in
      distinct_first (is_same_key pair.0 pair.0) pair.1 (numbers_of pair.0 pairs) (key_self pair.0) (own.each pair.0)
      (subst (λ w. IsIn pair.1 (numbers_of w pairs)) (sym same) q.1),
  own_distinct pairs (record {
    each = λ key. distinct_tail (is_same_key pair.0 key) pair.1 (numbers_of key pairs) (own.each key);
    one = λ key other k p q. own.one key other k (cond_in (is_same_key pair.0 key) pair.1 (numbers_of key pairs) k p) (cond_in (is_same_key pair.0 other) pair.1 (numbers_of other pairs) k q);
  }),
)

distinct_own : (pairs : KeyList) → AreDistinct (ids_of pairs) → AreOwn pairs
distinct_own [] d = record { each = λ key. tt; one = λ key other k p q. absurd p }
distinct_own (pair ∷ pairs) d =
    let rest = distinct_own pairs d.1 in
    record {
      each = λ key. distinct_cond (is_same_key pair.0 key) pair.1 (numbers_of key pairs) (λ p. d.0 (keyed_listed key pairs pair.1 p)) (rest.each key);
      one = λ key other k p q.
          elim (in_cond (is_same_key pair.0 key) pair.1 (numbers_of key pairs) k p) as (λ _. key ≡ other) [
            | inl a ↦ elim (in_cond (is_same_key pair.0 other) pair.1 (numbers_of other pairs) k q) as (λ _. key ≡ other) [
              | inl b ↦ sym (key_is pair.0 key a.0) ∙ key_is pair.0 other b.0
              | inr b ↦ absurd (d.0 (subst (λ j. IsIn j (ids_of pairs)) a.1 (keyed_listed other pairs k b)))
            ]
            | inr a ↦ elim (in_cond (is_same_key pair.0 other) pair.1 (numbers_of other pairs) k q) as (λ _. key ≡ other) [
              | inl b ↦ absurd (d.0 (subst (λ j. IsIn j (ids_of pairs)) b.1 (keyed_listed key pairs k a)))
              | inr b ↦ rest.one key other k a b
            ]
          ];
    }

own_same : (xs ys : KeyList) → ((key : List Bool) → numbers_of key xs ≡ numbers_of key ys) → AreOwn ys → AreOwn xs
own_same xs ys same own = record {
  each = λ key. subst AreDistinct (sym (same key)) (own.each key);
  one = λ key other k p q. own.one key other k (subst (IsIn k) (same key) p) (subst (IsIn k) (same other) q);
}

distinct_as : (f : Leaves) (g : Forks) (root : Option Down) (shape : Option Shape) (pairs : KeyList) → StandsAs f g root shape pairs → AreDistinct (ids_of pairs)
distinct_as f g root None pairs stands = own_distinct pairs (own_same pairs [] stands.same (distinct_own [] tt))
distinct_as f g root (Some s) pairs stands =
    own_distinct pairs (own_same pairs (pairs_of s) stands.same (distinct_own (pairs_of s) (subst AreDistinct (sym (shape_ids s)) stands.sound.numbers)))

-- the numbers of a tree are distinct
pub listed_distinct : {V : Type 0} (p : Pool (Node V)) (t : Tree) (pairs : KeyList) → Stands p t pairs → AreDistinct (ids_of pairs)
listed_distinct p t pairs stands = distinct_as _ _ t.root stands.shape pairs stands.stands

without_unlisted : (pairs : KeyList) (id : ℕ) → IsOff id pairs → without id pairs ≡ pairs
without_unlisted [] id off = refl
without_unlisted (pair ∷ pairs) id off = by (pair.1 == id) refl (without_unlisted pairs id (λ p. off (inr p)))
  where
    by : (b : Bool) → (pair.1 == id) ≡ b → without id pairs ≡ pairs → cond b (without id pairs) (pair ∷ without id pairs) ≡ pair ∷ pairs
    by true e rest = absurd (off (inl (grind (arith, nat_tests))))
    by false e rest = ap (λ w. pair ∷ w) rest

-- without a number there is one pair less
pub without_length : (pairs : KeyList) (id : ℕ) → AreDistinct (ids_of pairs) → Lists pairs id → length (without id pairs) + 1 ≡ length pairs
without_length [] id d p = absurd p
without_length (pair ∷ pairs) id d p = by (pair.1 == id) refl p (λ q. without_length pairs id d.1 q)
  where
    by : (b : Bool) → (pair.1 == id) ≡ b → Lists (pair ∷ pairs) id → (Lists pairs id → length (without id pairs) + 1 ≡ length pairs) → length (cond b (without id pairs) (pair ∷ without id pairs)) + 1 ≡ suc (length pairs)
    by true e q rest =
        let same : pair.1 ≡ id = grind (arith, nat_tests) in
        omega (arith, ap length (without_unlisted pairs id (λ r. d.0 (subst (λ j. IsIn j (ids_of pairs)) (sym same) r))))
    by false e (inl is) rest = absurd (grind (arith, nat_tests))
    by false e (inr q) rest = omega (arith, rest q)
