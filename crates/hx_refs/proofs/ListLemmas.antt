-- Items of lists by their positions.
use Rattle.std.proofs.Common.{◌≡◌, ℕ, zero, suc, ◌<◌, List, [], ◌∷◌, ◌++◌, length, refl, ap, arith}
use Rattle.std.specs.Prelude.{None, Some, slice_get, slice_set}

pub get_set_same : {A : Type 0} → (xs : List A) (r : ℕ) (x y : A) → slice_get xs r ≡ Some x
    → slice_get (slice_set xs r y) r ≡ Some y
get_set_same [] r x y is = absurd (cc)
get_set_same (z ∷ xs) zero x y is = refl
get_set_same (z ∷ xs) (suc r) x y is = get_set_same xs r x y is

pub get_set_other : {A : Type 0} → (xs : List A) (r q : ℕ) (y : A) → (r ≡ q → ⊥)
    → slice_get (slice_set xs r y) q ≡ slice_get xs q
get_set_other [] r q y other = refl
get_set_other (z ∷ xs) zero zero y other = absurd (other refl)
get_set_other (z ∷ xs) zero (suc q) y other = refl
get_set_other (z ∷ xs) (suc r) zero y other = refl
get_set_other (z ∷ xs) (suc r) (suc q) y other =
    get_set_other xs r q y (λ same. other (ap suc same))

-- one more item at the end
pub get_more : {A : Type 0} → (xs : List A) (y : A) (q : ℕ) → q < length xs
    → slice_get (xs ++ y ∷ []) q ≡ slice_get xs q
get_more [] y q within = absurd (omega arith)
get_more (z ∷ xs) y zero within = refl
get_more (z ∷ xs) y (suc q) within = get_more xs y q (omega arith)

pub get_last : {A : Type 0} → (xs : List A) (y : A) → slice_get (xs ++ y ∷ []) (length xs) ≡ Some y
get_last [] y = refl
get_last (z ∷ xs) y = get_last xs y

pub get_past : {A : Type 0} → (xs : List A) (y : A) (q : ℕ) → length xs < q
    → slice_get (xs ++ y ∷ []) q ≡ None
get_past [] y zero past = absurd (omega arith)
get_past [] y (suc q) past = refl
get_past (z ∷ xs) y zero past = absurd (omega arith)
get_past (z ∷ xs) y (suc q) past = get_past xs y q (omega arith)
