-- Lists about one of their items, and sums over them.
use Rattle.std.proofs.Common.{◌≡◌, ◌≢◌, ℕ, zero, suc, ◌+◌, ◌<◌, ◌≤◌, List, [], ◌∷◌, ◌++◌, length, map, get_or, set, Option, Some, None, All, refl, sym, ap, subst, ◌∙◌, inl, inr, arith}
use Rattle.std.specs.List.{sum_by}
use Rattle.std.specs.Prelude.{slice_get}
use Rattle.std.proofs.lemmas.List.{map-append}
use Rattle.std.proofs.lemmas.List.Elements.{All-nil, All-cons, All-head, All-tail, All-append}
use Rattle.std.proofs.lemmas.List.Sums.{sum_by-append, sum_by-cons}
use Rattle.hx_pool.specs.Chain.{IsIn}

module _ {X : Type 0} (P : X → Type 0) where
  pub all_left : (xs ys : List X) → All P (xs ++ ys) → All P xs
  all_left [] ys all = All-nil P
  all_left (x ∷ xs) ys all = All-cons P x xs (All-head P x (xs ++ ys) all) (all_left xs ys (All-tail P x (xs ++ ys) all))

  pub all_right : (xs ys : List X) → All P (xs ++ ys) → All P ys
  all_right [] ys all = all
  all_right (x ∷ xs) ys all = all_right xs ys (All-tail P x (xs ++ ys) all)

  -- the one about which a list is
  pub all_here : (xs : List X) (y : X) (ys : List X) → All P (xs ++ y ∷ ys) → P y
  all_here xs y ys all = All-head P y ys (all_right xs (y ∷ ys) all)

  pub all_after : (xs : List X) (y : X) (ys : List X) → All P (xs ++ y ∷ ys) → All P ys
  all_after xs y ys all = All-tail P y ys (all_right xs (y ∷ ys) all)

  pub all_about : (xs : List X) (y : X) (ys : List X) → All P xs → P y → All P ys → All P (xs ++ y ∷ ys)
  all_about xs y ys before here after = All-append P xs (y ∷ ys) before (All-cons P y ys here after)

-- ---- numbers of items

module _ {X : Type 0} (number : X → ℕ) where
  pub numbers_about : (xs : List X) (y : X) (ys : List X) → map number (xs ++ y ∷ ys) ≡ map number xs ++ number y ∷ map number ys
  numbers_about xs y ys = map-append number xs (y ∷ ys)

  pub numbers_beside : (xs ys : List X) → map number (xs ++ ys) ≡ map number xs ++ map number ys
  numbers_beside xs ys = map-append number xs ys

  -- an item of which P holds, whose number it is
  pub number_at : (P : X → Type 0) (xs : List X) (k : ℕ) → All P xs → IsIn k (map number xs) → (x : X) × (k ≡ number x) × P x
  number_at P [] k all there = absurd there
  number_at P (x ∷ xs) k all (inl same) = (x, same, All-head P x xs all)
  number_at P (x ∷ xs) k all (inr there) = number_at P xs k (All-tail P x xs all) there

  -- none has a number that isn't among theirs
  pub none_has : (xs : List X) (k : ℕ) → (IsIn k (map number xs) → ⊥) → All (λ x. number x ≢ k) xs
  none_has [] k off = All-nil (λ x. number x ≢ k)
  none_has (x ∷ xs) k off =
      All-cons (λ x. number x ≢ k) x xs (λ same. off (inl (sym same))) (none_has xs k (λ there. off (inr there)))

-- ---- sums

module _ {X : Type 0} (f : X → ℕ) where
  pub sum_about : (xs : List X) (y : X) (ys : List X) → sum_by f (xs ++ y ∷ ys) ≡ sum_by f xs + f y + sum_by f ys
  sum_about xs y ys = omega (arith, sum_by-append f xs (y ∷ ys), sum_by-cons f y ys)

  pub sum_beside : (xs ys : List X) → sum_by f (xs ++ ys) ≡ sum_by f xs + sum_by f ys
  sum_beside xs ys = sum_by-append f xs ys

-- ---- positions

-- two lists that have the same items are the same
pub same_items : {X : Type 0} (xs ys : List X) → ((i : ℕ) → slice_get xs i ≡ slice_get ys i) → xs ≡ ys
same_items [] [] same = refl
same_items [] (y ∷ ys) same = let none : None ≡ Some y = same 0 in cc
same_items (x ∷ xs) [] same = let none : Some x ≡ None = same 0 in cc
same_items (x ∷ xs) (y ∷ ys) same =
    let first : Some x ≡ Some y = same 0 in
    let e : x ≡ y = cc in
    ap (λ z. z ∷ xs) e ∙ ap (λ zs. y ∷ zs) (same_items xs ys (λ i. same (suc i)))
