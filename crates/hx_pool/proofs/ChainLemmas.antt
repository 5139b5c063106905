-- Lists of distinct numbers, and links that lead through them.
use Rattle.std.proofs.Common.{◌≡◌, ◌⊎◌, ℕ, List, [], ◌∷◌, ◌++◌, Option, Some, None, refl, sym, ap, ◌∙◌, inl, inr}
use Rattle.hx_pool.specs.declared.links.Links.{Links}
use Rattle.hx_pool.specs.declared.chain.Chain.{Chain}
use Rattle.hx_pool.specs.Chain.{first_or, last_or, IsIn, AreDistinct, AreApart, AreLinked, LiesAt}

pub in_left : (xs ys : List ℕ) (k : ℕ) → IsIn k xs → IsIn k (xs ++ ys)
in_left [] ys k p = absurd p
in_left (x ∷ xs) ys k (inl e) = inl e
in_left (x ∷ xs) ys k (inr p) = inr (in_left xs ys k p)

pub in_right : (xs ys : List ℕ) (k : ℕ) → IsIn k ys → IsIn k (xs ++ ys)
in_right [] ys k p = p
in_right (x ∷ xs) ys k p = inr (in_right xs ys k p)

pub in_either : (xs ys : List ℕ) (k : ℕ) → IsIn k (xs ++ ys) → IsIn k xs ⊎ IsIn k ys
in_either [] ys k p = inr p
in_either (x ∷ xs) ys k (inl e) = inl (inl e)
in_either (x ∷ xs) ys k (inr p) = elim (in_either xs ys k p) as (λ _. IsIn k (x ∷ xs) ⊎ IsIn k ys) [ inl here ↦ inl (inr here) | inr there ↦ inr there ]

pub distinct_left : (xs ys : List ℕ) → AreDistinct (xs ++ ys) → AreDistinct xs
distinct_left [] ys d = tt
distinct_left (x ∷ xs) ys d = (λ p. d.0 (in_left xs ys x p), distinct_left xs ys d.1)

pub distinct_right : (xs ys : List ℕ) → AreDistinct (xs ++ ys) → AreDistinct ys
distinct_right [] ys d = d
distinct_right (x ∷ xs) ys d = distinct_right xs ys d.1

pub in_same : (xs : List ℕ) (j k : ℕ) → k ≡ j → IsIn k xs → IsIn j xs
in_same [] j k e p = absurd p
in_same (x ∷ xs) j k e (inl q) = inl (sym e ∙ q)
in_same (x ∷ xs) j k e (inr p) = inr (in_same xs j k e p)

pub distinct_apart : (xs ys : List ℕ) → AreDistinct (xs ++ ys) → AreApart xs ys
distinct_apart [] ys d k p q = absurd p
distinct_apart (x ∷ xs) ys d k (inl e) q = d.0 (in_right xs ys x (in_same ys x k e q))
distinct_apart (x ∷ xs) ys d k (inr p) q = distinct_apart xs ys d.1 k p q

pub distinct_join : (xs ys : List ℕ) → AreDistinct xs → AreDistinct ys → AreApart xs ys → AreDistinct (xs ++ ys)
distinct_join [] ys d e apart = e
distinct_join (x ∷ xs) ys d e apart = (
  λ p. elim (in_either xs ys x p) as (λ _. ⊥) [ inl here ↦ d.0 here | inr there ↦ apart x (inl refl) there ],
  distinct_join xs ys d.1 e (λ k p q. apart k (inr p) q),
)

pub first_append : (xs ys : List ℕ) (next : Option ℕ) → first_or (xs ++ ys) next ≡ first_or xs (first_or ys next)
first_append [] ys next = refl
first_append (x ∷ xs) ys next = refl

pub last_append : (prev : Option ℕ) (xs ys : List ℕ) → last_or prev (xs ++ ys) ≡ last_or (last_or prev xs) ys
last_append prev [] ys = refl
last_append prev (x ∷ xs) ys = last_append (Some x) xs ys

-- the last number is one of the list, and so is the first
pub last_in : (x : ℕ) (xs : List ℕ) (k : ℕ) → last_or (Some x) xs ≡ Some k → IsIn k (x ∷ xs)
last_in x [] k e = let same : k ≡ x = cc in inl same
last_in x (y ∷ xs) k e = inr (last_in y xs k e)

pub last_none_in : (xs : List ℕ) (k : ℕ) → last_or None xs ≡ Some k → IsIn k xs
last_none_in [] k e = cc
last_none_in (x ∷ xs) k e = last_in x xs k e

pub first_in : (xs : List ℕ) (k : ℕ) → first_or xs None ≡ Some k → IsIn k xs
first_in [] k e = cc
first_in (x ∷ xs) k e = let same : k ≡ x = cc in inl same

module _ (f : ℕ → Option Links) where
  pub linked_left : (p n : Option ℕ) (xs ys : List ℕ) → AreLinked f p (xs ++ ys) n → AreLinked f p xs (first_or ys n)
  linked_left p n [] ys l = tt
  linked_left p n (x ∷ xs) ys l = (rw (← first_append) l.0, linked_left (Some x) n xs ys l.1)

  pub linked_right : (p n : Option ℕ) (xs ys : List ℕ) → AreLinked f p (xs ++ ys) n → AreLinked f (last_or p xs) ys n
  linked_right p n [] ys l = l
  linked_right p n (x ∷ xs) ys l = linked_right (Some x) n xs ys l.1

  pub linked_join : (p n : Option ℕ) (xs ys : List ℕ) → AreLinked f p xs (first_or ys n) → AreLinked f (last_or p xs) ys n → AreLinked f p (xs ++ ys) n
  linked_join p n [] ys l r = r
  linked_join p n (x ∷ xs) ys l r = (rw (first_append xs ys n) l.0, linked_join (Some x) n xs ys l.1 r)

  -- each number of the list has links
  pub linked_has : (p n : Option ℕ) (xs : List ℕ) (k : ℕ) → AreLinked f p xs n → IsIn k xs → (l : Links) × (f k ≡ Some l)
  linked_has p n [] k l q = absurd q
  linked_has p n (x ∷ xs) k l (inl e) = (record { prev = p; next = first_or xs n }, ap f e ∙ l.0)
  linked_has p n (x ∷ xs) k l (inr q) = linked_has (Some x) n xs k l.1 q

  pub linked_frame : (g : ℕ → Option Links) (p n : Option ℕ) (xs : List ℕ) → ((k : ℕ) → IsIn k xs → g k ≡ f k) → AreLinked f p xs n → AreLinked g p xs n
  linked_frame g p n [] same l = tt
  linked_frame g p n (x ∷ xs) same l = (same x (inl refl) ∙ l.0, linked_frame g (Some x) n xs (λ k q. same k (inr q)) l.1)

-- a chain lies for the list where the links of its numbers are as before
pub lies_frame : (f g : ℕ → Option Links) (c : Chain) (xs : List ℕ) → ((k : ℕ) → IsIn k xs → g k ≡ f k) → LiesAt f c xs → LiesAt g c xs
lies_frame f g c xs same lies = record {
  distinct = lies.distinct;
  first = lies.first;
  last = lies.last;
  linked = linked_frame f g None None xs same lies.linked;
}

-- what a number's links are, by what stands before it and after it
pub lies_links : (f : ℕ → Option Links) (c : Chain) (xs : List ℕ) (id : ℕ) (ys : List ℕ) → LiesAt f c (xs ++ id ∷ ys) → f id ≡ Some (record { prev = last_or None xs; next = first_or ys None })
lies_links f c xs id ys lies = (linked_right f None None xs (id ∷ ys) lies.linked).0
