-- An ordered map of std, and the finite map that it is seen as.
use Rattle.std.proofs.Common.{◌≡◌, ◌⊎◌, inl, inr, cond, List, [], ◌∷◌, Some, None, IsSome, refl, ap, sym, subst, ◌∙◌}
use Rattle.std.specs.declared.cmp.Ordering.{Ordering}
use Rattle.std.specs.declared.cmp.Ordering.TheVariants.{Less, Equal, Greater}
use Rattle.std.specs.Ordering.{is_eq}
use Rattle.std.specs.BTreeMap as tree
use Rattle.std.specs.BTreeMap.{BTreeMap, is_at, WritesThrough}
use Rattle.std.specs.Cmp.{IsTotalOrder, eq_by_cmp_equiv}
use Rattle.std.specs.FinMap as map
use Rattle.std.specs.FinMap.{FinMap, find, from_entries, get-from_entries, get-insert, get-remove, same_map}
use Rattle.std.specs.Map.{lookup}
use Rattle.std.proofs.lemmas.Map.Lookups.{CmpEqualImpliesEq}

-- both look for the first entry at the key
scans_alike : {K X : Type 0} (R : K → K → Ordering) (q : K) (es : List (K × X)) → find R q es ≡ lookup (is_at (R q)) es
scans_alike R q [] = refl
scans_alike R q (e ∷ es) = ap (λ rest. cond (is_at (R q) e.0) (Some e.1) rest) (scans_alike R q es)

-- the finite map answers what the map answers
pub answers_alike : {K X : Type 0} {R : K → K → Ordering} (o : IsTotalOrder R) (m : BTreeMap K X) (q : K) → map.get (from_entries {R = R} m.entries) q ≡ tree.get R m q
answers_alike {R = R} o m q = get-from_entries o m.entries q ∙ scans_alike R q m.entries

-- a map that has v at k, and else what m has
pub seen_with : {K X : Type 0} {R : K → K → Ordering} (o : IsTotalOrder R) (exact : CmpEqualImpliesEq R) (m n : BTreeMap K X) (k : K) (v : X) → ((q : K) → tree.get R n q ≡ cond (is_at (R k) q) (Some v) (tree.get R m q)) → from_entries {R = R} n.entries ≡ map.insert (from_entries m.entries) k v
seen_with {R = R} o exact m n k v updated =
    same_map o exact _ _ (λ q.
    answers_alike o n q ∙ updated q
    ∙ ap (λ b. cond b (Some v) (tree.get R m q)) ((eq_by_cmp_equiv o).symm k q)
    ∙ sym (get-insert o (from_entries m.entries) k v q ∙ ap (cond (is_at (R q) k) (Some v)) (answers_alike o m q)))

-- a map that has nothing at k, and else what m has
pub seen_without : {K X : Type 0} {R : K → K → Ordering} (o : IsTotalOrder R) (exact : CmpEqualImpliesEq R) (m n : BTreeMap K X) (k : K) → ((q : K) → tree.get R n q ≡ cond (is_at (R k) q) None (tree.get R m q)) → from_entries {R = R} n.entries ≡ map.remove (from_entries m.entries) k
seen_without {R = R} o exact m n k updated =
    same_map o exact _ _ (λ q.
    answers_alike o n q ∙ updated q
    ∙ ap (λ b. cond b None (tree.get R m q)) ((eq_by_cmp_equiv o).symm k q)
    ∙ sym (get-remove o (from_entries m.entries) k q ∙ ap (cond (is_at (R q) k) None) (answers_alike o m q)))

-- a map in which w was written over a value that was there
pub seen_written : {K X : Type 0} {R : K → K → Ordering} (o : IsTotalOrder R) (exact : CmpEqualImpliesEq R) (m n : BTreeMap K X) (k : K) (old w : X) → Some old ≡ tree.get R m k → WritesThrough R (R k) m w n → from_entries {R = R} n.entries ≡ map.insert (from_entries m.entries) k w
seen_written o exact m n k old w there written = seen_with o exact m n k w ((written.3 (subst IsSome there refl)).0)

pub chosen_where_tied : {X : Type 0} (r : Ordering) (a b : X) → r ≡ Equal → cond (is_eq r) a b ≡ a
chosen_where_tied r a b tied = ap (λ r. cond (is_eq r) a b) tied

pub passed_where_apart : {X : Type 0} (r : Ordering) (a b : X) → ¬ (r ≡ Equal) → cond (is_eq r) a b ≡ b
passed_where_apart Less a b apart = refl
passed_where_apart Equal a b apart = absurd (apart refl)
passed_where_apart Greater a b apart = refl

pub tied_or_apart : (r : Ordering) → (r ≡ Equal) ⊎ ¬ (r ≡ Equal)
tied_or_apart Less = inr (λ (tied : Less ≡ Equal). cc)
tied_or_apart Equal = inl refl
tied_or_apart Greater = inr (λ (tied : Greater ≡ Equal). cc)

-- one map: an insertion and a removal show at their key alone
module _ {K X : Type 0} {R : K → K → Ordering} (o : IsTotalOrder R) where
  pub inserted_tied : (m : FinMap R X) (k : K) (v : X) (q : K) → R q k ≡ Equal → map.get (map.insert m k v) q ≡ Some v
  inserted_tied m k v q tied = get-insert o m k v q ∙ chosen_where_tied (R q k) _ _ tied

  pub inserted_apart : (m : FinMap R X) (k : K) (v : X) (q : K) → ¬ (R q k ≡ Equal) → map.get (map.insert m k v) q ≡ map.get m q
  inserted_apart m k v q apart = get-insert o m k v q ∙ passed_where_apart (R q k) _ _ apart

  pub removed_tied : (m : FinMap R X) (k q : K) → R q k ≡ Equal → map.get (map.remove m k) q ≡ None
  removed_tied m k q tied = get-remove o m k q ∙ chosen_where_tied (R q k) _ _ tied

  pub removed_apart : (m : FinMap R X) (k q : K) → ¬ (R q k ≡ Equal) → map.get (map.remove m k) q ≡ map.get m q
  removed_apart m k q apart = get-remove o m k q ∙ passed_where_apart (R q k) _ _ apart
