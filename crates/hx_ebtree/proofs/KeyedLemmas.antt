-- Which codes lie below which fork, and what of the pairs lies in a hole.
use Rattle.std.proofs.Common.{◌≡◌, ℕ, Bool, true, false, List, [], ◌∷◌, ◌++◌, refl, sym, ap, subst, ◌∙◌, inl, inr}
use Rattle.std.proofs.lemmas.List.{append-nil}
use Rattle.hx_pool.specs.Chain.{IsIn}
use Rattle.hx_pool.proofs.ChainLemmas.{in_left, in_right, in_either}
use Rattle.hx_ebtree.specs.Bits.{code_of, IsPrefix}
use Rattle.hx_ebtree.specs.KeyList.{numbers_of, ids_of}
use Rattle.hx_ebtree.specs.Shape.{Shape, leaf, fork, pairs_of, numbers, fronts, IsKeyed, with_key}
use Rattle.hx_ebtree.specs.ShapeContext.{ShapeContext, root, on_left, on_right, plug, hole_shared}
use Rattle.hx_ebtree.proofs.CodeLemmas.{prefix_on, prefix_under, prefix_clash}
use Rattle.hx_ebtree.proofs.PairLemmas.{key_cases, numbers_append, numbers_other, ids_with, ids_append}

pub keyed_weaker : (p q : List Bool) (s : Shape) → IsPrefix p q → IsKeyed q s → IsKeyed p s
keyed_weaker p q (leaf key id more) pq k = prefix_on p q (code_of key) pq k
keyed_weaker p q (fork h sh l r) pq k = (prefix_on p q sh pq k.0, k.1, k.2)

pub keyed_hole : (c : ShapeContext) (s : Shape) → IsKeyed [] (plug c s) → IsKeyed (hole_shared c) s
keyed_hole root s k = k
keyed_hole (on_left c h sh r) s k = (keyed_hole c (fork h sh s r) k).1
keyed_hole (on_right c h sh l) s k = (keyed_hole c (fork h sh l s) k).2

pub keyed_replace : (c : ShapeContext) (s t : Shape) → IsKeyed [] (plug c s) → IsKeyed (hole_shared c) t → IsKeyed [] (plug c t)
keyed_replace root s t k n = n
keyed_replace (on_left c h sh r) s t k n =
    let old = keyed_hole c (fork h sh s r) k in keyed_replace c (fork h sh s r) (fork h sh t r) k (old.0, n, old.2)
keyed_replace (on_right c h sh l) s t k n =
    let old = keyed_hole c (fork h sh l s) k in keyed_replace c (fork h sh l s) (fork h sh l t) k (old.0, old.1, n)

-- a key whose code doesn't begin so is not below
pub none_below : (p : List Bool) (s : Shape) (key : List Bool) → IsKeyed p s → (IsPrefix p (code_of key) → ⊥) → numbers_of key (pairs_of s) ≡ []
none_below p (leaf other id more) key k off = elim (key_cases other key) as (λ _. numbers_of key (with_key other (id ∷ more)) ≡ []) [
  | inl e ↦ absurd (off (subst (λ w. IsPrefix p (code_of w)) e k))
  | inr d ↦ numbers_other key other (id ∷ more) d
]
none_below p (fork h sh l r) key k off =
    numbers_append key (pairs_of l) (pairs_of r)
    ∙ ap (λ xs. xs ++ numbers_of key (pairs_of r)) (none_below (sh ++ false ∷ []) l key k.1 (λ q. off (prefix_on p sh (code_of key) k.0 (prefix_under sh false (code_of key) q))))
    ∙ none_below (sh ++ true ∷ []) r key k.2 (λ q. off (prefix_on p sh (code_of key) k.0 (prefix_under sh true (code_of key) q)))

pub numbers_replace : (c : ShapeContext) (s t : Shape) (key : List Bool) → numbers_of key (pairs_of t) ≡ numbers_of key (pairs_of s) → numbers_of key (pairs_of (plug c t)) ≡ numbers_of key (pairs_of (plug c s))
numbers_replace root s t key e = e
numbers_replace (on_left c h sh r) s t key e =
    numbers_replace c (fork h sh s r) (fork h sh t r) key
    (numbers_append key (pairs_of t) (pairs_of r) ∙ ap (λ xs. xs ++ numbers_of key (pairs_of r)) e ∙ sym (numbers_append key (pairs_of s) (pairs_of r)))
numbers_replace (on_right c h sh l) s t key e =
    numbers_replace c (fork h sh l s) (fork h sh l t) key
    (numbers_append key (pairs_of l) (pairs_of t) ∙ ap (λ xs. numbers_of key (pairs_of l) ++ xs) e ∙ sym (numbers_append key (pairs_of l) (pairs_of s)))

-- a key that leads to the hole is only there
pub numbers_in_hole : (c : ShapeContext) (s : Shape) (key : List Bool) → IsKeyed [] (plug c s) → IsPrefix (hole_shared c) (code_of key) → numbers_of key (pairs_of (plug c s)) ≡ numbers_of key (pairs_of s)
numbers_in_hole root s key k p = refl
numbers_in_hole (on_left c h sh r) s key k p =
    let whole = keyed_hole c (fork h sh s r) k in
    let leads = prefix_under sh false (code_of key) p in
    numbers_in_hole c (fork h sh s r) key k (prefix_on (hole_shared c) sh (code_of key) whole.0 leads)
    ∙ numbers_append key (pairs_of s) (pairs_of r)
    ∙ ap (λ xs. numbers_of key (pairs_of s) ++ xs) (none_below (sh ++ true ∷ []) r key whole.2 (λ q. prefix_clash sh false (code_of key) p q))
    ∙ append-nil (numbers_of key (pairs_of s))
numbers_in_hole (on_right c h sh l) s key k p =
    let whole = keyed_hole c (fork h sh l s) k in
    let leads = prefix_under sh true (code_of key) p in
    numbers_in_hole c (fork h sh l s) key k (prefix_on (hole_shared c) sh (code_of key) whole.0 leads)
    ∙ numbers_append key (pairs_of l) (pairs_of s)
    ∙ ap (λ xs. xs ++ numbers_of key (pairs_of s)) (none_below (sh ++ false ∷ []) l key whole.1 (λ q. prefix_clash sh true (code_of key) p q))

-- the numbers of a shape are those of its pairs
pub shape_ids : (s : Shape) → ids_of (pairs_of s) ≡ numbers s
shape_ids (leaf key id more) = ids_with key (id ∷ more)
shape_ids (fork h sh l r) = ids_append (pairs_of l) (pairs_of r) ∙ ap (λ xs. xs ++ ids_of (pairs_of r)) (shape_ids l) ∙ ap (λ xs. numbers l ++ xs) (shape_ids r)

-- the first of a chain is one of its numbers
pub front_number : (s : Shape) (k : ℕ) → IsIn k (fronts s) → IsIn k (numbers s)
front_number (leaf key id more) k (inl e) = inl e
front_number (leaf key id more) k (inr p) = absurd p
front_number (fork h sh l r) k p = elim (in_either (fronts l) (fronts r) k p) as (λ _. IsIn k (numbers l ++ numbers r)) [
  | inl q ↦ in_left (numbers l) (numbers r) k (front_number l k q)
  | inr q ↦ in_right (numbers l) (numbers r) k (front_number r k q)
]
