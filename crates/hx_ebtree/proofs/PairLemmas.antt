-- The numbers of the pairs with a key.
use Rattle.std.proofs.Common.{◌≡◌, ◌⊎◌, ℕ, Bool, true, false, cond, List, [], ◌∷◌, ◌++◌, Option, Some, None, refl, sym, ap, subst, inl, inr, true≢false}
use Rattle.hx_pool.specs.Chain.{IsIn, first_or}
use Rattle.hx_ebtree.specs.KeyList.{KeyList, is_same_key, exact_of, numbers_of, ids_of}
use Rattle.hx_ebtree.specs.Shape.{with_key}

pub key_self : (xs : List Bool) → is_same_key xs xs ≡ true
key_self [] = refl
key_self (true ∷ xs) = key_self xs
key_self (false ∷ xs) = key_self xs

pub key_is : (xs ys : List Bool) → is_same_key xs ys ≡ true → xs ≡ ys
key_is [] [] e = refl
key_is [] (y ∷ ys) e = absurd (true≢false (sym e))
key_is (x ∷ xs) [] e = absurd (true≢false (sym e))
key_is (true ∷ xs) (true ∷ ys) e = ap (λ l. true ∷ l) (key_is xs ys e)
key_is (false ∷ xs) (false ∷ ys) e = ap (λ l. false ∷ l) (key_is xs ys e)
key_is (true ∷ xs) (false ∷ ys) e = absurd (true≢false (sym e))
key_is (false ∷ xs) (true ∷ ys) e = absurd (true≢false (sym e))

pub key_cases : (xs ys : List Bool) → (xs ≡ ys) ⊎ (is_same_key xs ys ≡ false)
key_cases xs ys = by (is_same_key xs ys) refl
  where
    by : (b : Bool) → is_same_key xs ys ≡ b → (xs ≡ ys) ⊎ (is_same_key xs ys ≡ false)
    by true e = inl (key_is xs ys e)
    by false e = inr e

pub key_differs : (xs ys : List Bool) → (xs ≡ ys → ⊥) → is_same_key xs ys ≡ false
key_differs xs ys d = elim (key_cases xs ys) [ inl e ↦ absurd (d e) | inr e ↦ e ]

cons_append : (b : Bool) (x : ℕ) (xs ys : List ℕ) → cond b (x ∷ (xs ++ ys)) (xs ++ ys) ≡ cond b (x ∷ xs) xs ++ ys
cons_append true x xs ys = refl
cons_append false x xs ys = refl

pub numbers_append : (key : List Bool) (xs ys : KeyList) → numbers_of key (xs ++ ys) ≡ numbers_of key xs ++ numbers_of key ys
numbers_append key [] ys = refl
numbers_append key (x ∷ xs) ys = rw (numbers_append key xs ys) (cons_append (is_same_key x.0 key) x.1 (numbers_of key xs) (numbers_of key ys))

pub numbers_with : (key : List Bool) (ids : List ℕ) → numbers_of key (with_key key ids) ≡ ids
numbers_with key [] = refl
numbers_with key (id ∷ ids) = rw (key_self key) (ap (λ l. id ∷ l) (numbers_with key ids))

pub numbers_other : (key other : List Bool) (ids : List ℕ) → is_same_key other key ≡ false → numbers_of key (with_key other ids) ≡ []
numbers_other key other [] d = refl
numbers_other key other (id ∷ ids) d = rw d (numbers_other key other ids d)

exact_step : (b : Bool) (x : ℕ) (o : Option ℕ) (xs : List ℕ) → o ≡ first_or xs None → cond b (Some x) o ≡ first_or (cond b (x ∷ xs) xs) None
exact_step true x o xs e = refl
exact_step false x o xs e = e

pub exact_is : (pairs : KeyList) (key : List Bool) → exact_of pairs key ≡ first_or (numbers_of key pairs) None
exact_is [] key = refl
exact_is (pair ∷ pairs) key = exact_step (is_same_key pair.0 key) pair.1 (exact_of pairs key) (numbers_of key pairs) (exact_is pairs key)

-- a number of a key is a number of the list, and the other way round
listed_step : (b : Bool) (x : ℕ) (xs : List ℕ) (k : ℕ) → IsIn k (cond b (x ∷ xs) xs) → (k ≡ x) ⊎ IsIn k xs
listed_step true x xs k p = p
listed_step false x xs k p = inr p

pub keyed_listed : (key : List Bool) (pairs : KeyList) (k : ℕ) → IsIn k (numbers_of key pairs) → IsIn k (ids_of pairs)
keyed_listed key [] k p = p
keyed_listed key (pair ∷ pairs) k p = elim (listed_step (is_same_key pair.0 key) pair.1 (numbers_of key pairs) k p) as (λ _. IsIn k (ids_of (pair ∷ pairs))) [
  | inl e ↦ inl e
  | inr q ↦ inr (keyed_listed key pairs k q)
]

step_in : (b : Bool) (x : ℕ) (xs : List ℕ) (k : ℕ) → IsIn k xs → IsIn k (cond b (x ∷ xs) xs)
step_in true x xs k p = inr p
step_in false x xs k p = p

pub listed_keyed : (pairs : KeyList) (k : ℕ) → IsIn k (ids_of pairs) → (key : List Bool) × IsIn k (numbers_of key pairs)
listed_keyed [] k p = absurd p
listed_keyed (pair ∷ pairs) k (inl e) = (pair.0, rw (key_self pair.0) (inl e))
listed_keyed (pair ∷ pairs) k (inr p) = let q = listed_keyed pairs k p in (q.0, step_in (is_same_key pair.0 q.0) pair.1 (numbers_of q.0 pairs) k q.1)

-- lists with the same numbers for each key have the same numbers
pub listed_same : (xs ys : KeyList) → ((key : List Bool) → numbers_of key xs ≡ numbers_of key ys) → (k : ℕ) → IsIn k (ids_of xs) → IsIn k (ids_of ys)
listed_same xs ys same k p = let q = listed_keyed xs k p in keyed_listed q.0 ys k (subst (IsIn k) (same q.0) q.1)

pub ids_with : (key : List Bool) (ids : List ℕ) → ids_of (with_key key ids) ≡ ids
ids_with key [] = refl
ids_with key (id ∷ ids) = ap (λ l. id ∷ l) (ids_with key ids)

pub ids_append : (xs ys : KeyList) → ids_of (xs ++ ys) ≡ ids_of xs ++ ids_of ys
ids_append [] ys = refl
ids_append (x ∷ xs) ys = ap (λ l. x.1 ∷ l) (ids_append xs ys)

pub none_listed : (xs : KeyList) → ((key : List Bool) → numbers_of key xs ≡ []) → xs ≡ []
none_listed [] none = refl
none_listed (x ∷ xs) none = let e : x.1 ∷ numbers_of x.0 xs ≡ [] = subst (λ b. cond b (x.1 ∷ numbers_of x.0 xs) (numbers_of x.0 xs) ≡ []) (key_self x.0) (none x.0) in cc
