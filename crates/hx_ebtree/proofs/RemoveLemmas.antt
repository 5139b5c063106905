-- Where a node's leaf and its branch part are, what stands above what, and lists without a number.
use Rattle.std.proofs.Common.{◌≡◌, ◌≢◌, ℕ, ◌==◌, Bool, true, false, cond, List, [], ◌∷◌, ◌++◌, refl, sym, ap, subst, ◌∙◌, inl, inr, arith}
use Rattle.std.proofs.lemmas.Bool.Decides.{nat_tests}
use Rattle.hx_pool.specs.Chain.{IsIn}
use Rattle.hx_pool.proofs.ChainLemmas.{in_left, in_right, in_either, in_same}
use Rattle.hx_ebtree.specs.KeyList.{KeyList, is_same_key, numbers_of, ids_of, IsOff, without}
use Rattle.hx_ebtree.specs.Shape.{Shape, leaf, fork, pairs_of, numbers, fronts, holders, IsAbove, with_key}
use Rattle.hx_ebtree.specs.Remove.{IsAboveBy}
use Rattle.hx_ebtree.specs.ShapeContext.{ShapeContext, root, on_left, on_right, plug}
use Rattle.hx_ebtree.proofs.ShapeLemmas.{numbers_around, fronts_around, holders_around}
use Rattle.hx_ebtree.proofs.PairLemmas.{key_cases, numbers_append, numbers_with, numbers_other, keyed_listed, listed_same}
use Rattle.hx_ebtree.proofs.KeyedLemmas.{shape_ids, front_number}
use Rattle.hx_ebtree.proofs.WholeLemmas.{holder_front, above_hole}

-- the leaf of a node that is the first of its chain
pub record LeafPlace (whole : Shape) (id : ℕ) : Type 0 where
  pub context : ShapeContext
  pub key : List Bool
  pub more : List ℕ
  pub is : whole ≡ plug context (leaf key id more)

pub leaf_place : (c : ShapeContext) (s : Shape) (id : ℕ) → IsIn id (fronts s) → LeafPlace (plug c s) id
leaf_place c (leaf key j more) id (inl e) = record { context = c; key = key; more = more; is = ap (λ k. plug c (leaf key k more)) (sym e) }
leaf_place c (leaf key j more) id (inr p) = absurd p
leaf_place c (fork h sh l r) id p = elim (in_either (fronts l) (fronts r) id p) as (λ _. LeafPlace (plug c (fork h sh l r)) id) [
  | inl q ↦ leaf_place (on_left c h sh r) l id q
  | inr q ↦ leaf_place (on_right c h sh l) r id q
]

-- the branch that lies in a node's slot
pub record ForkPlace (whole : Shape) (id : ℕ) : Type 0 where
  pub context : ShapeContext
  pub shared : List Bool
  pub left : Shape
  pub right : Shape
  pub is : whole ≡ plug context (fork id shared left right)

pub fork_place : (c : ShapeContext) (s : Shape) (id : ℕ) → IsIn id (holders s) → ForkPlace (plug c s) id
fork_place c (leaf key j more) id p = absurd p
fork_place c (fork h sh l r) id (inl e) = record { context = c; shared = sh; left = l; right = r; is = ap (λ k. plug c (fork k sh l r)) (sym e) }
fork_place c (fork h sh l r) id (inr p) = elim (in_either (holders l) (holders r) id p) as (λ _. ForkPlace (plug c (fork h sh l r)) id) [
  | inl q ↦ fork_place (on_left c h sh r) l id q
  | inr q ↦ fork_place (on_right c h sh l) r id q
]

module _ (ρ : ℕ → ℕ) where
  pub above_by : (s : Shape) → IsAbove s → ((k : ℕ) → IsIn k (holders s) → ρ k ≡ k) → IsAboveBy ρ s
  above_by (leaf key id more) a same = tt
  above_by (fork h sh l r) a same =
      (in_same (fronts l ++ fronts r) (ρ h) h (sym (same h (inl refl))) a.0, above_by l a.1 (λ k p. same k (inr (in_left (holders l) (holders r) k p))), above_by r a.2 (λ k p. same k (inr (in_right (holders l) (holders r) k p))))

  pub by_above : (s : Shape) → IsAboveBy ρ s → ((k : ℕ) → IsIn k (holders s) → ρ k ≡ k) → IsAbove s
  by_above (leaf key id more) a same = tt
  by_above (fork h sh l r) a same =
      (in_same (fronts l ++ fronts r) h (ρ h) (same h (inl refl)) a.0, by_above l a.1 (λ k p. same k (inr (in_left (holders l) (holders r) k p))), by_above r a.2 (λ k p. same k (inr (in_right (holders l) (holders r) k p))))

  pub by_hole : (c : ShapeContext) (s : Shape) → IsAboveBy ρ (plug c s) → IsAboveBy ρ s
  by_hole root s a = a
  by_hole (on_left c h sh r) s a = (by_hole c (fork h sh s r) a).1
  by_hole (on_right c h sh l) s a = (by_hole c (fork h sh l s) a).2

  pub by_held : (s : Shape) (k : ℕ) → IsAboveBy ρ s → IsIn k (holders s) → IsIn (ρ k) (fronts s)
  by_held (leaf key id more) k a p = absurd p
  by_held (fork h sh l r) k a (inl e) = in_same (fronts l ++ fronts r) (ρ k) (ρ h) (ap ρ (sym e)) a.0
  by_held (fork h sh l r) k a (inr p) = elim (in_either (holders l) (holders r) k p) as (λ _. IsIn (ρ k) (fronts l ++ fronts r)) [
    | inl q ↦ in_left (fronts l) (fronts r) (ρ k) (by_held l k a.1 q)
    | inr q ↦ in_right (fronts l) (fronts r) (ρ k) (by_held r k a.2 q)
  ]

  -- another shape in the hole, whose fronts are those that ρ gives
  pub by_replace : (c : ShapeContext) (s t : Shape) → IsAbove (plug c s) → IsAboveBy ρ t → ((k : ℕ) → IsIn k (fronts s) → IsIn (ρ k) (fronts t)) → ((k : ℕ) → IsIn k (fronts_around c) → ρ k ≡ k) → IsAboveBy ρ (plug c t)
  by_replace root s t a b sub same = b
  by_replace (on_left c h sh r) s t a b sub same =
      let old = above_hole c (fork h sh s r) a in
      let in_r : (k : ℕ) → IsIn k (fronts r) → ρ k ≡ k = λ k p. same k (in_left (fronts r) (fronts_around c) k p) in
      let wider : (k : ℕ) → IsIn k (fronts s ++ fronts r) → IsIn (ρ k) (fronts t ++ fronts r) = λ k p. elim (in_either (fronts s) (fronts r) k p) as (λ _. IsIn (ρ k) (fronts t ++ fronts r)) [
        | inl q ↦ in_left (fronts t) (fronts r) (ρ k) (sub k q)
        | inr q ↦ in_right (fronts t) (fronts r) (ρ k) (in_same (fronts r) (ρ k) k (sym (in_r k q)) q)
      ] in
      by_replace c (fork h sh s r) (fork h sh t r) a (wider h old.0, b, above_by r old.2 (λ k p. in_r k (holder_front r k old.2 p))) wider (λ k p. same k (in_right (fronts r) (fronts_around c) k p))
  by_replace (on_right c h sh l) s t a b sub same =
      let old = above_hole c (fork h sh l s) a in
      let in_l : (k : ℕ) → IsIn k (fronts l) → ρ k ≡ k = λ k p. same k (in_left (fronts l) (fronts_around c) k p) in
      let wider : (k : ℕ) → IsIn k (fronts l ++ fronts s) → IsIn (ρ k) (fronts l ++ fronts t) = λ k p. elim (in_either (fronts l) (fronts s) k p) as (λ _. IsIn (ρ k) (fronts l ++ fronts t)) [
        | inl q ↦ in_left (fronts l) (fronts t) (ρ k) (in_same (fronts l) (ρ k) k (sym (in_l k q)) q)
        | inr q ↦ in_right (fronts l) (fronts t) (ρ k) (sub k q)
      ] in
      by_replace c (fork h sh l s) (fork h sh l t) a (wider h old.0, above_by l old.1 (λ k p. in_l k (holder_front l k old.1 p)), b) wider (λ k p. same k (in_right (fronts l) (fronts_around c) k p))

  -- a shape of the same fronts in the hole, above as it should be
  pub moved : (c : ShapeContext) (s t : Shape) → fronts s ≡ fronts t → IsAboveBy ρ (plug c s) → IsAbove t → ((k : ℕ) → IsIn k (holders_around c) → ρ k ≡ k) → IsAbove (plug c t)
  moved root s t e a b same = b
  moved (on_left c h sh r) s t e a b same =
      let old = by_hole c (fork h sh s r) a in
      moved c (fork h sh s r) (fork h sh t r) (ap (λ w. w ++ fronts r) e) a
      (subst (λ w. IsIn h (w ++ fronts r)) e (in_same (fronts s ++ fronts r) h (ρ h) (same h (inl refl)) old.0), b, by_above r old.2 (λ k p. same k (inr (in_left (holders r) (holders_around c) k p))))
      (λ k p. same k (inr (in_right (holders r) (holders_around c) k p)))
  moved (on_right c h sh l) s t e a b same =
      let old = by_hole c (fork h sh l s) a in
      moved c (fork h sh l s) (fork h sh l t) (ap (λ w. fronts l ++ w) e) a
      (subst (λ w. IsIn h (fronts l ++ w)) e (in_same (fronts l ++ fronts s) h (ρ h) (same h (inl refl)) old.0), by_above l old.1 (λ k p. same k (inr (in_left (holders l) (holders_around c) k p))), b)
      (λ k p. same k (inr (in_right (holders l) (holders_around c) k p)))

-- a list of numbers without one of them
abbrev pub without_number : ℕ → List ℕ → List ℕ
without_number id [] = []
without_number id (x ∷ xs) = cond (x == id) (without_number id xs) (x ∷ without_number id xs)

pub without_append : (id : ℕ) (xs ys : List ℕ) → without_number id (xs ++ ys) ≡ without_number id xs ++ without_number id ys
without_append id [] ys = refl
without_append id (x ∷ xs) ys = rw (without_append id xs ys) (by (x == id))
  where
    by : (b : Bool) → cond b (without_number id xs ++ without_number id ys) (x ∷ (without_number id xs ++ without_number id ys)) ≡ cond b (without_number id xs) (x ∷ without_number id xs) ++ without_number id ys
    by true = refl
    by false = refl

pub without_off : (id : ℕ) (xs : List ℕ) → (IsIn id xs → ⊥) → without_number id xs ≡ xs
without_off id [] off = refl
without_off id (x ∷ xs) off =
    let other : (x == id) ≡ false = (let differs : x ≢ id = λ e. off (inl (sym e)) in grind (arith, nat_tests)) in
    rw other (ap (λ l. x ∷ l) (without_off id xs (λ p. off (inr p))))

pub numbers_without : (key : List Bool) (id : ℕ) (pairs : KeyList) → numbers_of key (without id pairs) ≡ without_number id (numbers_of key pairs)
numbers_without key id [] = refl
numbers_without key id (p ∷ pairs) = by (p.1 == id) (is_same_key p.0 key) refl refl (numbers_without key id pairs)
  where
    by : (a b : Bool) → (p.1 == id) ≡ a → is_same_key p.0 key ≡ b → numbers_of key (without id pairs) ≡ without_number id (numbers_of key pairs)
        → numbers_of key (cond a (without id pairs) (p ∷ without id pairs)) ≡ without_number id (cond b (p.1 ∷ numbers_of key pairs) (numbers_of key pairs))
    by true true ea eb e = rw ea e
    by true false ea eb e = e
    by false true ea eb e = rw (ea, eb) (ap (λ l. p.1 ∷ l) e)
    by false false ea eb e = rw eb e

-- a number in the hole is taken out of the whole
pub less_plug : (id : ℕ) (key : List Bool) (c : ShapeContext) (s t : Shape) → (IsIn id (numbers_around c) → ⊥) → numbers_of key (pairs_of t) ≡ without_number id (numbers_of key (pairs_of s)) → numbers_of key (pairs_of (plug c t)) ≡ without_number id (numbers_of key (pairs_of (plug c s)))
less_plug id key root s t off e = e
less_plug id key (on_left c h sh r) s t off e =
    let off_r : IsIn id (numbers_of key (pairs_of r)) → ⊥ = λ p. off (in_left (numbers r) (numbers_around c) id (subst (IsIn id) (shape_ids r) (keyed_listed key (pairs_of r) id p))) in
    less_plug id key c (fork h sh s r) (fork h sh t r) (λ p. off (in_right (numbers r) (numbers_around c) id p))
    (numbers_append key (pairs_of t) (pairs_of r) ∙ ap (λ w. w ++ numbers_of key (pairs_of r)) e
    ∙ ap (λ w. without_number id (numbers_of key (pairs_of s)) ++ w) (sym (without_off id (numbers_of key (pairs_of r)) off_r))
    ∙ sym (without_append id (numbers_of key (pairs_of s)) (numbers_of key (pairs_of r))) ∙ ap (without_number id) (sym (numbers_append key (pairs_of s) (pairs_of r))))
less_plug id key (on_right c h sh l) s t off e =
    let off_l : IsIn id (numbers_of key (pairs_of l)) → ⊥ = λ p. off (in_left (numbers l) (numbers_around c) id (subst (IsIn id) (shape_ids l) (keyed_listed key (pairs_of l) id p))) in
    less_plug id key c (fork h sh l s) (fork h sh l t) (λ p. off (in_right (numbers l) (numbers_around c) id p))
    (numbers_append key (pairs_of l) (pairs_of t) ∙ ap (λ w. numbers_of key (pairs_of l) ++ w) e
    ∙ ap (λ w. w ++ without_number id (numbers_of key (pairs_of s))) (sym (without_off id (numbers_of key (pairs_of l)) off_l))
    ∙ sym (without_append id (numbers_of key (pairs_of l)) (numbers_of key (pairs_of s))) ∙ ap (without_number id) (sym (numbers_append key (pairs_of l) (pairs_of s))))

-- the node that takes over a branch part
abbrev pub place_of : ℕ → ℕ → ℕ → ℕ
place_of id y k = cond (k == id) y k

pub place_there : (id y k : ℕ) → k ≡ id → place_of id y k ≡ y
place_there id y k e = let same : (k == id) ≡ true = grind (arith, nat_tests) in rw same refl

pub place_other : (id y k : ℕ) → k ≢ id → place_of id y k ≡ k
place_other id y k d = let other : (k == id) ≡ false = grind (arith, nat_tests) in rw other refl

pub without_here : (id : ℕ) (xs : List ℕ) → without_number id (id ∷ xs) ≡ without_number id xs
without_here id xs = let same : (id == id) ≡ true = grind (arith, nat_tests) in rw same refl

-- the first nodes around a hole are numbers around it
pub front_around : (c : ShapeContext) (k : ℕ) → IsIn k (fronts_around c) → IsIn k (numbers_around c)
front_around root k p = p
front_around (on_left c h sh r) k p = elim (in_either (fronts r) (fronts_around c) k p) as (λ _. IsIn k (numbers r ++ numbers_around c)) [
  | inl q ↦ in_left (numbers r) (numbers_around c) k (front_number r k q)
  | inr q ↦ in_right (numbers r) (numbers_around c) k (front_around c k q)
]
front_around (on_right c h sh l) k p = elim (in_either (fronts l) (fronts_around c) k p) as (λ _. IsIn k (numbers l ++ numbers_around c)) [
  | inl q ↦ in_left (numbers l) (numbers_around c) k (front_number l k q)
  | inr q ↦ in_right (numbers l) (numbers_around c) k (front_around c k q)
]

-- each shape has a leaf
pub some_front : (s : Shape) → (k : ℕ) × IsIn k (fronts s)
some_front (leaf key id more) = (id, inl refl)
some_front (fork h sh l r) = let p = some_front l in (p.0, in_left (fronts l) (fronts r) p.0 p.1)

-- the first node of a leaf leaves it
pub less_leaf : (k key : List Bool) (id : ℕ) (more : List ℕ) → (IsIn id more → ⊥) → numbers_of k (with_key key more) ≡ without_number id (numbers_of k (with_key key (id ∷ more)))
less_leaf k key id more off = elim (key_cases key k) as (λ _. numbers_of k (with_key key more) ≡ without_number id (numbers_of k (with_key key (id ∷ more)))) [
  | inl e ↦ subst (λ w. numbers_of w (with_key key more) ≡ without_number id (numbers_of w (with_key key (id ∷ more)))) e
      (numbers_with key more ∙ sym (without_off id more off) ∙ sym (without_here id more) ∙ ap (without_number id) (sym (numbers_with key (id ∷ more))))
  | inr d ↦ numbers_other k key more d ∙ ap (without_number id) (sym (numbers_other k key (id ∷ more) d))
]

-- what the whole stands for without the number
pub less_pairs : (id : ℕ) (key : List Bool) (pairs : KeyList) (c : ShapeContext) (s t : Shape) → numbers_of key pairs ≡ numbers_of key (pairs_of (plug c s)) → (IsIn id (numbers_around c) → ⊥) → numbers_of key (pairs_of t) ≡ without_number id (numbers_of key (pairs_of s)) → numbers_of key (without id pairs) ≡ numbers_of key (pairs_of (plug c t))
less_pairs id key pairs c s t same off e = numbers_without key id pairs ∙ ap (without_number id) same ∙ sym (less_plug id key c s t off e)

-- a number that is not listed is not in the shape
pub off_number : (s : Shape) (pairs : KeyList) → ((key : List Bool) → numbers_of key pairs ≡ numbers_of key (pairs_of s)) → (k : ℕ) → IsOff k pairs → IsIn k (numbers s) → ⊥
off_number s pairs same k off p = off (listed_same (pairs_of s) pairs (λ key. sym (same key)) k (subst (IsIn k) (sym (shape_ids s)) p))

pub number_listed : (s : Shape) (pairs : KeyList) → ((key : List Bool) → numbers_of key pairs ≡ numbers_of key (pairs_of s)) → (k : ℕ) → IsIn k (numbers s) → IsIn k (ids_of pairs)
number_listed s pairs same k p = listed_same (pairs_of s) pairs (λ key. sym (same key)) k (subst (IsIn k) (sym (shape_ids s)) p)

in_without : (id : ℕ) (pairs : KeyList) (k : ℕ) → IsIn k (ids_of (without id pairs)) → IsIn k (ids_of pairs)
in_without id [] k p = p
in_without id (x ∷ pairs) k p = by (x.1 == id) p (in_without id pairs k)
  where
    by : (b : Bool) → IsIn k (ids_of (cond b (without id pairs) (x ∷ without id pairs))) → (IsIn k (ids_of (without id pairs)) → IsIn k (ids_of pairs)) → IsIn k (ids_of (x ∷ pairs))
    by true q more = inr (more q)
    by false (inl e) more = inl e
    by false (inr q) more = inr (more q)

pub off_without : (id : ℕ) (pairs : KeyList) (k : ℕ) → IsOff k pairs → IsOff k (without id pairs)
off_without id pairs k off p = off (in_without id pairs k p)
