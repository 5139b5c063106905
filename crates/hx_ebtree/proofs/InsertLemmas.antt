-- A new leaf beside what is in a hole, on a branch of its own.
use Rattle.std.proofs.Common.{◌≡◌, ◌≢◌, ◌⊎◌, ℕ, Bool, true, false, List, [], ◌∷◌, ◌++◌, length, Option, Some, refl, sym, ap, subst, ◌∙◌, inl, inr}
use mathlib.Core.Bool.{not}
use Rattle.std.proofs.lemmas.List.{append-nil}
use Rattle.std.specs.Option.{option_map}
use Rattle.hx_pool.specs.Chain.{IsIn, AreDistinct}
use Rattle.hx_pool.proofs.ChainLemmas.{in_left, in_right, in_either, in_same, distinct_join}
use Rattle.hx_ebtree.specs.declared.node.Down.{Down}
use Rattle.hx_ebtree.specs.declared.node.Down.TheVariants.{Leaf, Branch}
use Rattle.hx_ebtree.specs.declared.node.Up.{Up}
use Rattle.hx_ebtree.specs.Bits.{code_of, IsPrefix}
use Rattle.hx_ebtree.specs.KeyList.{numbers_of, is_same_key}
use Rattle.hx_ebtree.specs.Shape.{Shape, leaf, fork, pairs_of, numbers, fronts, holders, all_of, none_of, nothing_of, only_of, IsKeyed, IsAbove, IsSound, LeafPart, Leaves, Forks, key_in, IsLeafAt, HangsAt}
use Rattle.hx_ebtree.specs.ShapeContext.{ShapeContext, plug, hole_up, hole_shared, SurroundsAt}
use Rattle.hx_ebtree.specs.Change.{SetsDown, PutsFork, fork_of}
use Rattle.hx_ebtree.proofs.ShapeLemmas.{AreParted, plug_parted, plug_distinct, plug_in, leaf_frame, hangs_frame, surrounds_frame, numbers_around, holders_around, Holds}
use Rattle.hx_ebtree.proofs.ChangeLemmas.{down_leaf, down_branch, hole_in, rehang, surrounds_down}
use Rattle.hx_ebtree.proofs.KeyedLemmas.{keyed_replace, none_below, numbers_replace, numbers_in_hole}
use Rattle.hx_ebtree.proofs.CodeLemmas.{prefix_on, prefix_under, prefix_clash}
use Rattle.hx_ebtree.proofs.PairLemmas.{key_cases, numbers_append, numbers_with, numbers_other}
use Rattle.hx_ebtree.proofs.WholeLemmas.{holder_number, above_hole, above_replace}

-- the shape with the new leaf on a side
abbrev pub grown : Bool → ℕ → List Bool → List Bool → Shape → Shape
grown false id shared key s = fork id shared (leaf key id []) s
grown true id shared key s = fork id shared s (leaf key id [])

module _ (f : Leaves) (g : Forks) (at_root : Option Down) (f' : Leaves) (g' : Forks) (root' : Option Down)
    (c : ShapeContext) (s : Shape) (id : ℕ) (at : Down) (up : Option Up) (key shared : List Bool) (right : Bool)
    (change : PutsFork f g at_root f' g' root' id at up (length shared) right) (up_is : up ≡ hole_up c)
    (around : SurroundsAt f g at_root c at) (inside : HangsAt f g (hole_up c) s at)
    (above : IsAbove (plug c s)) (ds : AreDistinct (numbers (plug c s))) (dh : AreDistinct (holders (plug c s)))
    (fresh : IsIn id (numbers (plug c s)) → ⊥) (keyed : key_in f id ≡ Some key) where
  parted : AreParted (numbers s) (numbers_around c)
  parted = plug_parted all_of nothing_of c s ds

  parted_holders : AreParted (holders s) (holders_around c)
  parted_holders = plug_parted none_of only_of c s dh

  off_inside : IsIn id (numbers s) → ⊥
  off_inside p = fresh (plug_in all_of nothing_of c s id (inl p))

  off_around : IsIn id (numbers_around c) → ⊥
  off_around p = fresh (plug_in all_of nothing_of c s id (inr p))

  off_held : (k : ℕ) → IsIn k (holders s) ⊎ IsIn k (holders_around c) → k ≢ id
  off_held k p e = fresh (in_same (numbers (plug c s)) id k e (holder_number (plug c s) k above (plug_in none_of only_of c s k p)))

  off_leaf : (k : ℕ) (xs : List ℕ) → (IsIn id xs → ⊥) → IsIn k xs → k ≢ id
  off_leaf k xs off p e = off (in_same xs id k e p)

  -- the leaf is put
  inside1 : HangsAt change.f1 change.g1 (hole_up c) s at
  inside1 = hangs_frame f change.f1 g change.g1 (hole_up c) s at (λ k p. change.leaf.leaves k (off_leaf k (numbers s) off_inside p)) (λ k p. change.leaf.forks k (off_held k (inl p))) inside

  around1 : SurroundsAt change.f1 change.g1 at_root c at
  around1 = surrounds_frame f change.f1 g change.g1 at_root c at (λ k p. change.leaf.leaves k (off_leaf k (numbers_around c) off_around p)) (λ k p. change.leaf.forks k (off_held k (inr p))) around

  at_leaf_in : (k : ℕ) → at ≡ Leaf k → IsIn k (numbers s)
  at_leaf_in k e = down_leaf f g (hole_up c) s at k inside e

  at_branch_in : (k : ℕ) → at ≡ Branch k → IsIn k (holders s)
  at_branch_in k e = down_branch f g (hole_up c) s at k inside e

  -- what was there hangs at the new branch
  other_up : Option Up
  other_up = Some (record { node = id; right = not right })

  inside2 : HangsAt change.f2 change.g2 (Some (record { node = id; right = not right })) s at
  inside2 = rehang change.f1 change.g1 change.f2 change.g2 at (Some (record { node = id; right = not right })) change.other (hole_up c) s parted_holders.first inside1

  around2 : SurroundsAt change.f2 change.g2 at_root c at
  around2 = surrounds_frame change.f1 change.f2 change.g1 change.g2 at_root c at
      (λ k p. change.other.leaves k (λ e. parted.apart k (at_leaf_in k e) p)) (λ k p. change.other.forks k (λ e. parted_holders.apart k (at_branch_in k e) p)) around1

  new_leaf : (part : LeafPart) → f id ≡ Some part → IsLeafAt change.f1 (Some (record { node = id; right = right })) key id [] (Leaf id)
  new_leaf part here =
      let w = change.leaf.leaf part here in
      let same : part.key ≡ key = let seen : Some part.key ≡ Some key = sym (ap (option_map (λ (p : LeafPart). p.key)) here) ∙ keyed in cc in
      record {
        part = w.0;
        points = refl;
        here = w.1;
        hung = w.3;
        lies = w.4;
        keys = λ k there. elim there as (λ _. key_in change.f1 k ≡ Some key) [
          | inl e ↦ ap (key_in change.f1) e ∙ ap (option_map (λ (p : LeafPart). p.key)) w.1 ∙ ap Some (w.2 ∙ same)
          | inr n ↦ absurd n
        ];
      }

  leaf2 : (part : LeafPart) → f id ≡ Some part → IsLeafAt change.f2 (Some (record { node = id; right = right })) key id [] (Leaf id)
  leaf2 part here = leaf_frame change.f1 change.f2 (Some (record { node = id; right = right })) key id [] (Leaf id)
      (λ k there. elim there as (λ _. change.f2 k ≡ change.f1 k) [ inl e ↦ change.other.leaves k (λ e'. off_inside (in_same (numbers s) id k e (at_leaf_in k e'))) | inr n ↦ absurd n ]) (new_leaf part here)

  branch2 : change.g2 id ≡ Some (fork_of id at up (length shared) right)
  branch2 = change.other.forks id (λ e. off_inside_held (at_branch_in id e)) ∙ change.leaf.here
    where
      off_inside_held : IsIn id (holders s) → ⊥
      off_inside_held p = off_held id (inl p) refl

  -- the place above points to the new branch
  down3 : SetsDown change.f2 change.g2 at_root f' g' root' (hole_up c) (Branch id)
  down3 = subst (λ w. SetsDown change.f2 change.g2 at_root f' g' root' w (Branch id)) up_is change.down

  around3 : SurroundsAt f' g' root' c (Branch id)
  around3 = surrounds_down change.f2 change.g2 at_root f' g' root' c at (Branch id) down3 parted_holders.second around2

  kept3 : (k : ℕ) → (IsIn k (holders_around c) → ⊥) → g' k ≡ change.g2 k
  kept3 k off = down3.forks k (λ u e n. off (hole_in c u k e n))

  inside3 : HangsAt f' g' (Some (record { node = id; right = not right })) s at
  inside3 = hangs_frame change.f2 f' change.g2 g' (Some (record { node = id; right = not right })) s at (λ k _. down3.leaves k) (λ k p. kept3 k (λ q. parted_holders.apart k p q)) inside2

  leaf3 : (part : LeafPart) → f id ≡ Some part → IsLeafAt f' (Some (record { node = id; right = right })) key id [] (Leaf id)
  leaf3 part here = leaf_frame change.f2 f' (Some (record { node = id; right = right })) key id [] (Leaf id) (λ k _. down3.leaves k) (leaf2 part here)

  branch3 : g' id ≡ Some (fork_of id at (hole_up c) (length shared) right)
  branch3 = kept3 id (λ p. off_held id (inr p) refl) ∙ branch2 ∙ ap (λ w. Some (fork_of id at w (length shared) right)) up_is

  pub grown_holds : (part : LeafPart) → f id ≡ Some part → Holds f' g' root' c (grown right id shared key s) (Branch id)
  grown_holds part here = by right (leaf3 part here) inside3 branch3
    where
      by : (r : Bool) → IsLeafAt f' (Some (record { node = id; right = r })) key id [] (Leaf id) → HangsAt f' g' (Some (record { node = id; right = not r })) s at → g' id ≡ Some (fork_of id at (hole_up c) (length shared) r) → Holds f' g' root' c (grown r id shared key s) (Branch id)
      by false l i b = record { around = around3; inside = (Leaf id, at, record { points = refl; here = b }, l, i) }
      by true l i b = record { around = around3; inside = (at, Leaf id, record { points = refl; here = b }, i, l) }

  -- branch parts that no fork holds are as they were
  pub grown_idle : (k : ℕ) → k ≢ id → (IsIn k (holders (plug c s)) → ⊥) → g' k ≡ g k
  grown_idle k other off =
      kept3 k (λ p. off (plug_in none_of only_of c s k (inr p)))
      ∙ change.other.forks k (λ e. off (plug_in none_of only_of c s k (inl (at_branch_in k e))))
      ∙ change.leaf.forks k other

-- the new shape is sound, and stands for one pair more
one_off : (id : ℕ) (xs : List ℕ) → AreDistinct xs → (IsIn id xs → ⊥) → AreDistinct (id ∷ xs)
one_off id xs d off = (off, d)

one_after : (id : ℕ) (xs : List ℕ) → AreDistinct xs → (IsIn id xs → ⊥) → AreDistinct (xs ++ id ∷ [])
one_after id xs d off = distinct_join xs (id ∷ []) d ((λ p. p), tt) (λ k p q. elim q as (λ _. ⊥) [ inl e ↦ off (in_same xs id k e p) | inr n ↦ n ])

module _ (c : ShapeContext) (s : Shape) (id : ℕ) (key shared : List Bool)
    (sound : IsSound (plug c s)) (fresh : IsIn id (numbers (plug c s)) → ⊥)
    (under : IsPrefix (hole_shared c) shared) where
  numbers_parted : AreParted (numbers s) (numbers_around c)
  numbers_parted = plug_parted all_of nothing_of c s sound.numbers

  held_parted : AreParted (holders s) (holders_around c)
  held_parted = plug_parted none_of only_of c s sound.holders

  off_s : IsIn id (numbers s) → ⊥
  off_s p = fresh (plug_in all_of nothing_of c s id (inl p))

  off_c : IsIn id (numbers_around c) → ⊥
  off_c p = fresh (plug_in all_of nothing_of c s id (inr p))

  off_h : IsIn id (holders s) ⊎ IsIn id (holders_around c) → ⊥
  off_h p = fresh (holder_number (plug c s) id sound.above (plug_in none_of only_of c s id p))

  wider : (xs : List ℕ) (ys : List ℕ) → AreParted xs ys → (zs : List ℕ) → AreDistinct zs → ((k : ℕ) → IsIn k zs → (k ≡ id) ⊎ IsIn k xs) → (IsIn id ys → ⊥) → AreParted zs ys
  wider xs ys p zs d sub off = record {
    first = d;
    second = p.second;
    apart = λ k a b. elim (sub k a) as (λ _. ⊥) [ inl e ↦ off (in_same ys id k e b) | inr q ↦ p.apart k q b ];
  }

  pub grown_sound : (right : Bool) → IsPrefix (shared ++ right ∷ []) (code_of key) → IsKeyed (shared ++ not right ∷ []) s → IsSound (plug c (grown right id shared key s))
  grown_sound false leads keyed = record {
    keyed = keyed_replace c s (grown false id shared key s) sound.keyed (under, leads, keyed);
    above = above_replace c s (grown false id shared key s) sound.above (inl refl, tt, above_hole c s sound.above) (λ k p. inr p);
    numbers = plug_distinct all_of nothing_of c (grown false id shared key s) (wider (numbers s) (numbers_around c) numbers_parted (id ∷ numbers s) (one_off id (numbers s) numbers_parted.first off_s) (λ k p. p) off_c);
    holders = plug_distinct none_of only_of c (grown false id shared key s) (wider (holders s) (holders_around c) held_parted (id ∷ holders s) (one_off id (holders s) held_parted.first (λ p. off_h (inl p))) (λ k p. p) (λ p. off_h (inr p)));
  }
  grown_sound true leads keyed = record {
    keyed = keyed_replace c s (grown true id shared key s) sound.keyed (under, keyed, leads);
    above = above_replace c s (grown true id shared key s) sound.above (in_right (fronts s) (id ∷ []) id (inl refl), above_hole c s sound.above, tt) (λ k p. in_left (fronts s) (id ∷ []) k p);
    numbers = plug_distinct all_of nothing_of c (grown true id shared key s) (wider (numbers s) (numbers_around c) numbers_parted (numbers s ++ id ∷ []) (one_after id (numbers s) numbers_parted.first off_s)
        (λ k p. elim (in_either (numbers s) (id ∷ []) k p) as (λ _. (k ≡ id) ⊎ IsIn k (numbers s)) [ inl q ↦ inr q | inr q ↦ elim q as (λ _. (k ≡ id) ⊎ IsIn k (numbers s)) [ inl e ↦ inl e | inr n ↦ absurd n ] ]) off_c);
    holders = plug_distinct none_of only_of c (grown true id shared key s) (wider (holders s) (holders_around c) held_parted (id ∷ (holders s ++ [])) (one_off id (holders s ++ []) (subst AreDistinct (sym (append-nil (holders s))) held_parted.first) (λ p. off_h (inl (subst (IsIn id) (append-nil (holders s)) p))))
        (λ k p. elim p as (λ _. (k ≡ id) ⊎ IsIn k (holders s)) [ inl e ↦ inl e | inr q ↦ inr (subst (IsIn k) (append-nil (holders s)) q) ]) (λ p. off_h (inr p)));
  }

  -- the pairs of each key, with the new one behind
  pub grown_same : (right : Bool) → IsPrefix (shared ++ right ∷ []) (code_of key) → IsKeyed (shared ++ not right ∷ []) s → (k : List Bool) → numbers_of k (pairs_of (plug c (grown right id shared key s))) ≡ numbers_of k (pairs_of (plug c s)) ++ numbers_of k ((key, id) ∷ [])
  grown_same right leads keyed k = elim (key_cases key k) as (λ _. numbers_of k (pairs_of (plug c (grown right id shared key s))) ≡ numbers_of k (pairs_of (plug c s)) ++ numbers_of k ((key, id) ∷ [])) [
    | inl e ↦ subst (λ w. numbers_of w (pairs_of (plug c (grown right id shared key s))) ≡ numbers_of w (pairs_of (plug c s)) ++ numbers_of w ((key, id) ∷ [])) e (here right leads keyed)
    | inr d ↦ numbers_replace c s (grown right id shared key s) k (other right d)
        ∙ sym (append-nil (numbers_of k (pairs_of (plug c s)))) ∙ ap (λ w. numbers_of k (pairs_of (plug c s)) ++ w) (sym (numbers_other k key (id ∷ []) d))
  ]
    where
      other : (r : Bool) → is_same_key key k ≡ false → numbers_of k (pairs_of (grown r id shared key s)) ≡ numbers_of k (pairs_of s)
      other false d = numbers_append k ((key, id) ∷ []) (pairs_of s) ∙ ap (λ w. w ++ numbers_of k (pairs_of s)) (numbers_other k key (id ∷ []) d)
      other true d = numbers_append k (pairs_of s) ((key, id) ∷ []) ∙ ap (λ w. numbers_of k (pairs_of s) ++ w) (numbers_other k key (id ∷ []) d) ∙ append-nil (numbers_of k (pairs_of s))

      inner : (r : Bool) → IsKeyed (shared ++ not r ∷ []) s → IsPrefix (shared ++ r ∷ []) (code_of key) → numbers_of key (pairs_of s) ≡ []
      inner r keyed leads = none_below (shared ++ not r ∷ []) s key keyed (λ q. prefix_clash shared r (code_of key) leads q)

      grow : (r : Bool) → numbers_of key (pairs_of s) ≡ [] → numbers_of key (pairs_of (grown r id shared key s)) ≡ id ∷ []
      grow false none = numbers_append key ((key, id) ∷ []) (pairs_of s) ∙ ap (λ w. numbers_of key ((key, id) ∷ []) ++ w) none ∙ append-nil (numbers_of key ((key, id) ∷ [])) ∙ numbers_with key (id ∷ [])
      grow true none = numbers_append key (pairs_of s) ((key, id) ∷ []) ∙ ap (λ w. w ++ numbers_of key ((key, id) ∷ [])) none ∙ numbers_with key (id ∷ [])

      here : (r : Bool) → IsPrefix (shared ++ r ∷ []) (code_of key) → IsKeyed (shared ++ not r ∷ []) s → numbers_of key (pairs_of (plug c (grown r id shared key s))) ≡ numbers_of key (pairs_of (plug c s)) ++ numbers_of key ((key, id) ∷ [])
      here r leads keyed =
          let none = inner r keyed leads in
          let to_hole : IsPrefix (hole_shared c) (code_of key) = prefix_on (hole_shared c) shared (code_of key) under (prefix_under shared r (code_of key) leads) in
          numbers_in_hole c (grown r id shared key s) key (grown_sound r leads keyed).keyed to_hole ∙ grow r none
          ∙ sym (ap (λ w. w ++ numbers_of key ((key, id) ∷ [])) (numbers_in_hole c s key sound.keyed to_hole ∙ none) ∙ numbers_with key (id ∷ []))
