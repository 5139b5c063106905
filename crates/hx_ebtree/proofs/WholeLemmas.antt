-- A whole shape with something else in its hole: what stays sound, and what it stands for.
use Rattle.std.proofs.Common.{ℕ, ◌++◌, sym, inl, inr}
use Rattle.hx_pool.specs.Chain.{IsIn}
use Rattle.hx_pool.proofs.ChainLemmas.{in_left, in_right, in_either, in_same}
use Rattle.hx_ebtree.specs.Shape.{Shape, leaf, fork, numbers, fronts, holders, IsAbove}
use Rattle.hx_ebtree.specs.ShapeContext.{ShapeContext, root, on_left, on_right, plug}
use Rattle.hx_ebtree.proofs.KeyedLemmas.{front_number}

-- a node whose branch part is in use is the first of its chain
pub holder_front : (s : Shape) (k : ℕ) → IsAbove s → IsIn k (holders s) → IsIn k (fronts s)
holder_front (leaf key id more) k above q = absurd q
holder_front (fork h sh l r) k above (inl e) = in_same (fronts l ++ fronts r) k h (sym e) above.0
holder_front (fork h sh l r) k above (inr q) = elim (in_either (holders l) (holders r) k q) as (λ _. IsIn k (fronts l ++ fronts r)) [
  | inl a ↦ in_left (fronts l) (fronts r) k (holder_front l k above.1 a)
  | inr b ↦ in_right (fronts l) (fronts r) k (holder_front r k above.2 b)
]

pub holder_number : (s : Shape) (k : ℕ) → IsAbove s → IsIn k (holders s) → IsIn k (numbers s)
holder_number s k above q = front_number s k (holder_front s k above q)

pub above_hole : (c : ShapeContext) (s : Shape) → IsAbove (plug c s) → IsAbove s
above_hole root s a = a
above_hole (on_left c h sh r) s a = (above_hole c (fork h sh s r) a).1
above_hole (on_right c h sh l) s a = (above_hole c (fork h sh l s) a).2

-- no first node is lost
pub above_replace : (c : ShapeContext) (s t : Shape) → IsAbove (plug c s) → IsAbove t → ((k : ℕ) → IsIn k (fronts s) → IsIn k (fronts t)) → IsAbove (plug c t)
above_replace root s t a b sub = b
above_replace (on_left c h sh r) s t a b sub =
    let old = above_hole c (fork h sh s r) a in
    above_replace c (fork h sh s r) (fork h sh t r) a
    (wider h old.0, b, old.2) wider
  where
    wider : (k : ℕ) → IsIn k (fronts s ++ fronts r) → IsIn k (fronts t ++ fronts r)
    wider k q = elim (in_either (fronts s) (fronts r) k q) as (λ _. IsIn k (fronts t ++ fronts r)) [
      | inl p ↦ in_left (fronts t) (fronts r) k (sub k p)
      | inr p ↦ in_right (fronts t) (fronts r) k p
    ]
above_replace (on_right c h sh l) s t a b sub =
    let old = above_hole c (fork h sh l s) a in
    above_replace c (fork h sh l s) (fork h sh l t) a
    (wider h old.0, old.1, b) wider
  where
    wider : (k : ℕ) → IsIn k (fronts l ++ fronts s) → IsIn k (fronts l ++ fronts t)
    wider k q = elim (in_either (fronts l) (fronts s) k q) as (λ _. IsIn k (fronts l ++ fronts t)) [
      | inl p ↦ in_left (fronts l) (fronts t) k p
      | inr p ↦ in_right (fronts l) (fronts t) k (sub k p)
    ]
