-- Chains while numbers are taken and given.
use Rattle.std.proofs.Common.{◌≡◌, ℕ, suc, ◌<◌, List, [], ◌∷◌, ◌++◌, length, take, drop, get_or, take-append-drop, drop-cons, Option, Some, None, IsSome, refl, sym, ap, ◌∙◌, subst, inl, inr}
use Rattle.std.specs.Option.{option_map}
use Rattle.hx_pool.specs.declared.links.Links.{Links}
use Rattle.hx_pool.specs.declared.chain.Chain.{Chain}
use Rattle.hx_pool.specs.Pool.{Pool, get, IsLive, Updates, SameValues}
use Rattle.hx_pool.specs.Chain.{IsIn, AreDistinct, LiesIn, IsSameSlot, Relinked, links_at}
use Rattle.hx_pool.proofs.ChainLemmas.{in_right, linked_has, lies_frame}

module _ {T : Type 0} (links_of : T → Links) where
  absent : (x : Option T) (l : Links) → x ≡ None → option_map links_of x ≡ Some l → ⊥
  absent None l e f = cc
  absent (Some x) l e f = cc

  -- a number without a value is not in the list
  pub free_off : (p : Pool T) (c : Chain) (xs : List ℕ) (id : ℕ) → LiesIn links_of p c xs → get p id ≡ None → IsIn id xs → ⊥
  free_off p c xs id lies free q =
      let has = linked_has (links_at links_of p) None None xs id lies.linked q in
      absent (get p id) has.0 free has.1

  -- a chain stays as a number that is not in its list gets another value, or none
  pub lies_updated : (p q : Pool T) (c : Chain) (xs : List ℕ) (id : ℕ) (value : Option T) → LiesIn links_of p c xs → (IsIn id xs → ⊥) → Updates p q id value → LiesIn links_of q c xs
  lies_updated p q c xs id value lies off up =
      lies_frame (links_at links_of p) (links_at links_of q) c xs (λ k there. ap (option_map links_of) (up.others k (λ e. off (subst (λ m. IsIn m xs) e there)))) lies

  pub lies_same : (p q : Pool T) (c : Chain) (xs : List ℕ) → LiesIn links_of p c xs → SameValues p q → LiesIn links_of q c xs
  lies_same p q c xs lies same =
      lies_frame (links_at links_of p) (links_at links_of q) c xs (λ k there. ap (option_map links_of) (same k)) lies

  -- a number that is taken is not in the list
  pub lies_taken : (p q r : Pool T) (c : Chain) (xs : List ℕ) (id : ℕ) (value : Option T) → LiesIn links_of p c xs → SameValues p q → get q id ≡ None → Updates q r id value → LiesIn links_of r c xs × (IsIn id xs → ⊥)
  lies_taken p q r c xs id value lies same free up =
      let kept = lies_same p q c xs lies same in let off = free_off q c xs id kept free in
      (lies_updated q r c xs id value kept off up, off)

  present : (x : Option T) (l : Links) → option_map links_of x ≡ Some l → IsSome x
  present None l e = cc
  present (Some x) l e = refl

  -- each number of a list is live
  pub lies_live : (p : Pool T) (c : Chain) (xs : List ℕ) (id : ℕ) → LiesIn links_of p c xs → IsIn id xs → IsLive p id
  lies_live p c xs id lies q =
      let has = linked_has (links_at links_of p) None None xs id lies.linked q in present (get p id) has.0 has.1

module _ {T : Type 0} (same : T → T → Type 0) where
  same_live : (x y : Option T) → IsSameSlot same x y → IsSome x → IsSome y
  same_live None y s live = cc
  same_live (Some x) y s live = rw s.1 refl

  pub relinked_live : (p q : Pool T) (id : ℕ) → Relinked same p q → IsLive p id → IsLive q id
  relinked_live p q id relinked live = same_live (get p id) (get q id) (relinked.values id) live

-- distinct numbers, but for one of them, are others
pub distinct_off : (xs : List ℕ) (id : ℕ) (ys : List ℕ) → AreDistinct (xs ++ id ∷ ys) → IsIn id (xs ++ ys) → ⊥
distinct_off [] id ys d q = d.0 q
distinct_off (x ∷ xs) id ys d (inl e) = d.0 (in_right xs (id ∷ ys) x (inl (sym e)))
distinct_off (x ∷ xs) id ys d (inr q) = distinct_off xs id ys d.1 q

-- the list about the item at an index
pub about : (xs : List ℕ) (i id : ℕ) → i < length xs → id ≡ get_or xs i id → xs ≡ take i xs ++ id ∷ drop (suc i) xs
about xs i id lt e = sym (take-append-drop i xs) ∙ ap (λ l. take i xs ++ l) (drop-cons xs i id lt ∙ ap (λ x. x ∷ drop (suc i) xs) (sym e))

pub in_about : (xs ys zs : List ℕ) (id : ℕ) → xs ≡ ys ++ id ∷ zs → IsIn id xs
in_about xs ys zs id e = subst (IsIn id) (sym e) (in_right ys (id ∷ zs) id (inl refl))
