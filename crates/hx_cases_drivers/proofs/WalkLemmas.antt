-- Two chains of one pool: walks along the first, and what both lie for after a call.
use Rattle.std.proofs.Common.{◌≡◌, ℕ, List, [], ◌∷◌, ◌++◌, Option, Some, None, refl, sym, ap, ◌∙◌, subst, inl, inr}
use Rattle.std.proofs.lemmas.List.{append_assoc, append-nil}
use Rattle.hx_pool.specs.Chain.{IsIn, AreApart, first_or}
use Rattle.hx_pool.proofs.ChainLemmas.{in_left, in_right, in_either}

-- a walk along a list, at a number of it or past its end
pub record Walks (xs : List ℕ) (at : Option ℕ) : Type 0 where
  pub before : List ℕ
  pub after : List ℕ
  pub whole : xs ≡ before ++ after
  pub here : at ≡ first_or after None

pub walk_begins : (xs : List ℕ) (at : Option ℕ) → at ≡ first_or xs None → Walks xs at
walk_begins xs at e = record { before = []; after = xs; whole = refl; here = e }

-- a list that is cut at a number that it has
abbrev pub Split : ℕ → List ℕ → Type 0
Split id xs = (before : List ℕ) × (after : List ℕ) × (xs ≡ before ++ id ∷ after)

split_here : (xs before after : List ℕ) (id : ℕ) → xs ≡ before ++ after → Some id ≡ first_or after None → Split id xs
split_here xs before [] id whole e = cc
split_here xs before (x ∷ after) id whole e =
    let same : x ≡ id = cc in
    (before, after, whole ∙ ap (λ y. before ++ y ∷ after) same)

pub walk_split : (xs : List ℕ) (at : Option ℕ) (id : ℕ) → Walks xs at → at ≡ Some id → Split id xs
walk_split xs at id w e = split_here xs w.before w.after id w.whole (sym e ∙ w.here)

pub walk_goes_on : (xs : List ℕ) (id : ℕ) (next : Option ℕ) (s : Split id xs) → next ≡ first_or s.1 None → Walks xs next
walk_goes_on xs id next s e =
    record { before = s.0 ++ id ∷ []; after = s.1; whole = s.2 ∙ sym (append_assoc s.0 (id ∷ []) s.1); here = e }

-- lists without a common number, with one number more or less
pub apart_back : (xs ys : List ℕ) → AreApart xs ys → AreApart ys xs
apart_back xs ys apart k p q = apart k q p

pub apart_of_more : (xs ys : List ℕ) (id : ℕ) → AreApart xs ys → (IsIn id ys → ⊥) → AreApart ys (id ∷ xs)
apart_of_more xs ys id apart off k p (inl e) = off (subst (λ m. IsIn m ys) e p)
apart_of_more xs ys id apart off k p (inr q) = apart k q p

pub apart_put : (before after ys : List ℕ) (id : ℕ) → AreApart (before ++ after) ys → (IsIn id ys → ⊥) → AreApart (before ++ id ∷ after) ys
apart_put before after ys id apart off k p q = elim (in_either before (id ∷ after) k p) as (λ _. ⊥) [
  | inl here ↦ apart k (in_left before after k here) q
  | inr (inl e) ↦ off (subst (λ m. IsIn m ys) e q)
  | inr (inr there) ↦ apart k (in_right before after k there) q
]

pub apart_cut : (before after ys : List ℕ) (id : ℕ) → AreApart (before ++ id ∷ after) ys → AreApart (before ++ after) ys
apart_cut before after ys id apart k p q = elim (in_either before after k p) as (λ _. ⊥) [
  | inl here ↦ apart k (in_left before (id ∷ after) k here) q
  | inr there ↦ apart k (in_right before (id ∷ after) k (inr there)) q
]

pub apart_end : (xs ys : List ℕ) (id : ℕ) → AreApart xs ys → (IsIn id ys → ⊥) → AreApart (xs ++ id ∷ []) ys
apart_end xs ys id apart off = apart_put xs [] ys id (subst (λ l. AreApart l ys) (sym (append-nil xs)) apart) off
