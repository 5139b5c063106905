-- The list for which a chain lies, as the numbers along its links.
use Rattle.std.proofs.Common.{◌≡◌, ℕ, List, [], ◌∷◌, length, Option, Some, None, refl, sym, ap, ◌∙◌}
use Rattle.std.specs.Option.{option_map, option_and_then}
use Rattle.hx_pool.specs.declared.links.Links.{Links}
use Rattle.hx_pool.specs.declared.chain.Chain.{Chain}
use Rattle.hx_pool.specs.Pool.{Pool, get}
use Rattle.hx_pool.specs.Chain.{first_or, IsIn, AreLinked, LiesIn, links_at, numbers_from, numbers_in}
use Rattle.hx_pool.proofs.ChainLemmas.{lies_frame}

module _ (f : ℕ → Option Links) where
  numbers_linked : (xs : List ℕ) (prev : Option ℕ) → AreLinked f prev xs None → numbers_from f (length xs) (first_or xs None) ≡ xs
  numbers_linked [] prev l = refl
  numbers_linked (x ∷ xs) prev l =
      ap (λ w. x ∷ w) (ap (λ o. numbers_from f (length xs) (option_and_then (λ (links : Links). links.next) o)) l.0 ∙ numbers_linked xs (Some x) l.1)

  linked_unique : (xs ys : List ℕ) (p q : Option ℕ) → AreLinked f p xs None → AreLinked f q ys None → first_or xs None ≡ first_or ys None → xs ≡ ys
  linked_unique [] [] p q l m e = refl
  linked_unique [] (y ∷ ys) p q l m e = cc
  linked_unique (x ∷ xs) [] p q l m e = cc
  linked_unique (x ∷ xs) (y ∷ ys) p q l m e =
      let same : x ≡ y = cc in
      let both : Some (record { prev = p; next = first_or xs None }) ≡ Some (record { prev = q; next = first_or ys None }) = sym l.0 ∙ ap f same ∙ m.0 in
      let next : first_or xs None ≡ first_or ys None = next_of (record { prev = p; next = first_or xs None }) (record { prev = q; next = first_or ys None }) both in
      ap (λ w. x ∷ w) (linked_unique xs ys (Some x) (Some y) l.1 m.1 next) ∙ ap (λ w. w ∷ ys) same
    where
      next_of : (a b : Links) → Some a ≡ Some b → a.next ≡ b.next
      next_of a b e = let same : a ≡ b = cc in ap (λ (links : Links). links.next) same

module _ {T : Type 0} (links_of : T → Links) where
  -- the list is the numbers along the links
  pub lies_numbers : (p : Pool T) (c : Chain) (xs : List ℕ) → LiesIn links_of p c xs → numbers_in links_of p c (length xs) ≡ xs
  lies_numbers p c xs lies =
      ap (numbers_from (links_at links_of p) (length xs)) lies.first ∙ numbers_linked (links_at links_of p) xs None lies.linked

  -- there is one list
  pub lies_unique : (p : Pool T) (c : Chain) (xs ys : List ℕ) → LiesIn links_of p c xs → LiesIn links_of p c ys → xs ≡ ys
  lies_unique p c xs ys lies also =
      linked_unique (links_at links_of p) xs ys None None lies.linked also.linked (sym lies.first ∙ also.first)

  -- a chain stays as the numbers of its list keep their links
  pub lies_linked : (p q : Pool T) (c : Chain) (xs : List ℕ) → LiesIn links_of p c xs → ((k : ℕ) → IsIn k xs → links_at links_of q k ≡ links_at links_of p k) → LiesIn links_of q c xs
  lies_linked p q c xs lies same = lies_frame (links_at links_of p) (links_at links_of q) c xs same lies

  -- a chain stays as the numbers of its list keep their values
  pub lies_kept : (p q : Pool T) (c : Chain) (xs : List ℕ) → LiesIn links_of p c xs → ((k : ℕ) → IsIn k xs → get q k ≡ get p k) → LiesIn links_of q c xs
  lies_kept p q c xs lies same = lies_linked p q c xs lies (λ k there. ap (option_map links_of) (same k there))
