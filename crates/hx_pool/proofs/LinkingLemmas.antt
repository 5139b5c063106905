-- What the steps of a chain's calls come to, over whole lists.
use Rattle.std.proofs.Common.{◌≡◌, ℕ, List, [], ◌∷◌, ◌++◌, Option, Some, None, refl, sym, ◌∙◌, inl, inr}
use Rattle.hx_pool.specs.declared.links.Links.{Links}
use Rattle.hx_pool.specs.declared.chain.Chain.{Chain}
use Rattle.hx_pool.specs.Chain.{first_or, last_or, IsIn, AreDistinct, AreApart, AreLinked, LiesAt}
use Rattle.hx_pool.specs.Linking.{SetsNext, SetsPrev, IsLink, first_after, last_after}
use Rattle.hx_pool.proofs.ChainLemmas.{in_left, in_right, in_same, distinct_left, distinct_right, distinct_apart, distinct_join, first_append, last_append, last_in, last_none_in, first_in, linked_left, linked_right, linked_join, linked_frame}

module _ (f g : ℕ → Option Links) (q m : Option ℕ) where
  -- another number after the last one
  next_set : (p n : Option ℕ) (xs : List ℕ) → SetsNext f g q m → AreDistinct xs → q ≡ last_or p xs → AreLinked f p xs n → AreLinked g p xs m
  next_set p n [] s d e l = tt
  next_set p n (x ∷ []) s d e l = (s.at x _ e l.0, tt)
  next_set p n (x ∷ y ∷ xs) s d e l =
      let kept : g x ≡ f x = s.others x (λ here. d.0 (last_in y xs x (sym e ∙ here))) in
      (kept ∙ l.0, next_set (Some x) n (y ∷ xs) s d.1 e l.1)

  -- another number before the first one
  prev_set : (p n : Option ℕ) (xs : List ℕ) → SetsPrev f g q m → AreDistinct xs → q ≡ first_or xs None → AreLinked f p xs n → AreLinked g m xs n
  prev_set p n [] s d e l = tt
  prev_set p n (x ∷ xs) s d e l =
      let others : (k : ℕ) → IsIn k xs → g k ≡ f k = λ k there. s.others k (λ here. let same : k ≡ x = cc in d.0 (in_same xs x k same there)) in
      (s.at x _ e l.0, linked_frame f g (Some x) n xs others l.1)

  next_off : (p n : Option ℕ) (xs : List ℕ) → SetsNext f g q m → ((k : ℕ) → q ≡ Some k → IsIn k xs → ⊥) → AreLinked f p xs n → AreLinked g p xs n
  next_off p n xs s off l = linked_frame f g p n xs (λ k there. s.others k (λ here. off k here there)) l

  prev_off : (p n : Option ℕ) (xs : List ℕ) → SetsPrev f g q m → ((k : ℕ) → q ≡ Some k → IsIn k xs → ⊥) → AreLinked f p xs n → AreLinked g p xs n
  prev_off p n xs s off l = linked_frame f g p n xs (λ k there. s.others k (λ here. off k here there)) l

first_kept : (x : ℕ) (xs : List ℕ) (n c : Option ℕ) → first_after (last_or (Some x) xs) n c ≡ c
first_kept x [] n c = refl
first_kept x (y ∷ xs) n c = first_kept y xs n c

-- where the chain begins and ends once ys follow xs
pub first_is : (xs ys : List ℕ) (z c : Option ℕ) → c ≡ first_or xs z → first_after (last_or None xs) (first_or ys None) c ≡ first_or (xs ++ ys) None
first_is [] ys z c e = refl
first_is (x ∷ xs) ys z c e = first_kept x xs (first_or ys None) c ∙ e

pub last_is : (xs ys : List ℕ) (p c : Option ℕ) → c ≡ last_or p ys → last_after (first_or ys None) (last_or None xs) c ≡ last_or None (xs ++ ys)
last_is xs [] p c e = sym (last_append None xs [])
last_is xs (y ∷ ys) p c e = e ∙ sym (last_append None xs (y ∷ ys))

-- two runs of links become one
pub joined : (f f1 g : ℕ → Option Links) (xs ys : List ℕ) (a b : Option ℕ) → AreDistinct xs → AreDistinct ys → AreApart xs ys → SetsNext f f1 (last_or None xs) (first_or ys None) → SetsPrev f1 g (first_or ys None) (last_or None xs) → AreLinked f None xs a → AreLinked f b ys None → AreLinked g None (xs ++ ys) None
joined f f1 g xs ys a b dx dy apart next prev lx ly =
    let p = last_or None xs in let n = first_or ys None in
    linked_join g None None xs ys
    (prev_off f1 g n p None n xs prev (λ k here there. apart k there (first_in ys k here)) (next_set f f1 p n None a xs next dx refl lx))
    (prev_set f1 g n p b None ys prev dy refl (next_off f f1 p n b None ys next (λ k here there. apart k (last_none_in xs k here) there) ly))

pub lies_unlink : (f f1 g : ℕ → Option Links) (c d : Chain) (xs : List ℕ) (id : ℕ) (ys : List ℕ) (prev next : Option ℕ) → prev ≡ last_or None xs → next ≡ first_or ys None → SetsNext f f1 prev next → SetsPrev f1 g next prev → d.first ≡ first_after prev next c.first → d.last ≡ last_after next prev c.last → LiesAt f c (xs ++ id ∷ ys) → LiesAt g d (xs ++ ys)
lies_unlink f f1 g c d xs id ys prev next at_prev at_next sn sp first last lies =
    let dx = distinct_left xs (id ∷ ys) lies.distinct in
    let dy = (distinct_right xs (id ∷ ys) lies.distinct).1 in
    let apart : AreApart xs ys = λ k p q. distinct_apart xs (id ∷ ys) lies.distinct k p (inr q) in
    record {
      distinct = distinct_join xs ys dx dy apart;
      first = rw (first, at_prev, at_next) (first_is xs ys (Some id) c.first (lies.first ∙ first_append xs (id ∷ ys) None));
      last = rw (last, at_prev, at_next) (last_is xs ys (Some id) c.last (lies.last ∙ last_append None xs (id ∷ ys)));
      linked = joined f f1 g xs ys (Some id) (Some id) dx dy apart (rw (← at_prev, ← at_next) sn) (rw (← at_prev, ← at_next) sp)
          (linked_left f None None xs (id ∷ ys) lies.linked) (linked_right f None None xs (id ∷ ys) lies.linked).1;
    }

pub lies_link : (f g : ℕ → Option Links) (c d : Chain) (xs : List ℕ) (id : ℕ) (ys : List ℕ) (prev next : Option ℕ) → prev ≡ last_or None xs → next ≡ first_or ys None → IsLink f g c d prev id next → (IsIn id (xs ++ ys) → ⊥) → LiesAt f c (xs ++ ys) → LiesAt g d (xs ++ id ∷ ys)
lies_link f g c d xs id ys prev next at_prev at_next link off lies =
    let dx = distinct_left xs ys lies.distinct in
    let dy = distinct_right xs ys lies.distinct in
    let apart = distinct_apart xs ys lies.distinct in
    let off_left : IsIn id xs → ⊥ = λ p. off (in_left xs ys id p) in
    let off_right : IsIn id ys → ⊥ = λ p. off (in_right xs ys id p) in
    let f1 = link.middle in let f2 = link.both in
    let p = last_or None xs in let n = first_or ys None in
    let sn : SetsNext f1 f2 p (Some id) = rw (← at_prev) link.after in
    let sp : SetsPrev f2 g n (Some id) = rw (← at_next) link.before in
    let near : (zs : List ℕ) → (IsIn id zs → ⊥) → (k : ℕ) → IsIn k zs → f1 k ≡ f k = λ zs away k there. link.others k (λ same. away (in_same zs id k same there)) in
    let left : AreLinked g None xs (Some id) =
    prev_off f2 g n (Some id) None (Some id) xs sp (λ k here there. apart k there (first_in ys k here))
    (next_set f1 f2 p (Some id) None n xs sn dx refl (linked_frame f f1 None n xs (near xs off_left) (linked_left f None None xs ys lies.linked))) in
    let right : AreLinked g (Some id) ys None =
    prev_set f2 g n (Some id) p None ys sp dy refl
    (next_off f1 f2 p (Some id) p None ys sn (λ k here there. apart k (last_none_in xs k here) there)
    (linked_frame f f1 p None ys (near ys off_right) (linked_right f None None xs ys lies.linked))) in
    let here : g id ≡ Some (record { prev = p; next = n }) =
    sp.others id (λ e. off_right (first_in ys id e)) ∙ sn.others id (λ e. off_left (last_none_in xs id e)) ∙ rw (← at_prev, ← at_next) link.placed in
    record {
      distinct = distinct_join xs (id ∷ ys) dx (off_right, dy) (λ k a b. elim b as (λ _. ⊥) [ inl same ↦ off_left (in_same xs id k same a) | inr there ↦ apart k a there ]);
      first = rw (link.first, at_prev) (first_is xs (id ∷ ys) n c.first (lies.first ∙ first_append xs ys None));
      last = rw (link.last, at_next, last_append) (last_put (last_or None xs) id ys c.last (lies.last ∙ last_append None xs ys));
      linked = linked_join g None None xs (id ∷ ys) left (here, right);
    }
  where
    last_put : (p : Option ℕ) (id : ℕ) (ys : List ℕ) (c : Option ℕ) → c ≡ last_or p ys → last_after (first_or ys None) (Some id) c ≡ last_or p (id ∷ ys)
    last_put p id [] c e = refl
    last_put p id (y ∷ ys) c e = e

pub lies_append : (f f1 g : ℕ → Option Links) (a b d : Chain) (xs ys : List ℕ) → SetsNext f f1 a.last b.first → SetsPrev f1 g b.first a.last → d.first ≡ first_after a.last b.first a.first → d.last ≡ last_after b.first a.last b.last → AreApart xs ys → LiesAt f a xs → LiesAt f b ys → LiesAt g d (xs ++ ys)
lies_append f f1 g a b d xs ys sn sp first last apart la lb = record {
  distinct = distinct_join xs ys la.distinct lb.distinct apart;
  first = rw (first, la.last, lb.first) (first_is xs ys None a.first la.first);
  last = rw (last, la.last, lb.first) (last_is xs ys None b.last lb.last);
  linked = joined f f1 g xs ys None None la.distinct lb.distinct apart (rw (← la.last, ← lb.first) sn) (rw (← la.last, ← lb.first) sp) la.linked lb.linked;
}
