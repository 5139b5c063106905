-- The branch part of a node that left is moved to a node that has none in use.
use Rattle.std.proofs.Common.{◌≡◌, ◌≢◌, ◌⊎◌, ℕ, Bool, true, false, List, [], ◌∷◌, ◌++◌, length, Option, Some, None, refl, sym, ap, subst, ◌∙◌, inl, inr}
use Rattle.std.proofs.lemmas.Bool.{cases_eq}
use Rattle.hx_pool.specs.Chain.{IsIn}
use Rattle.hx_pool.proofs.ChainLemmas.{in_left, in_right, in_either, in_same, distinct_left, distinct_right, distinct_apart}
use Rattle.hx_ebtree.specs.declared.node.Down.{Down}
use Rattle.hx_ebtree.specs.declared.node.Down.TheVariants.{Leaf, Branch}
use Rattle.hx_ebtree.specs.declared.node.Up.{Up}
use Rattle.hx_ebtree.specs.declared.node.Branch.{Branch as Fork}
use Rattle.hx_ebtree.specs.KeyList.{KeyList, IsOff}
use Rattle.hx_ebtree.specs.Shape.{Shape, leaf, fork, numbers, fronts, holders, all_of, none_of, nothing_of, only_of, IsAbove, LeafPart, Leaves, Forks, left_of, right_of, HangsAt}
use Rattle.hx_ebtree.specs.ShapeContext.{ShapeContext, root, on_left, on_right, plug, hole_up, SurroundsAt}
use Rattle.hx_ebtree.specs.Change.{node_of, SetsUp, SetsDown}
use Rattle.hx_ebtree.specs.Tree.{StandsAs}
use Rattle.hx_ebtree.specs.Remove.{MovesPart, IsDetached, IsWithout}
use Rattle.hx_ebtree.proofs.ShapeLemmas.{AreParted, plug_parted, plug_distinct, plug_in, plug_either, hangs_frame, surrounds_frame, numbers_around, holders_around, Holds, plug_open, plug_close}
use Rattle.hx_ebtree.proofs.KeyedLemmas.{keyed_hole, keyed_replace, numbers_replace, front_number}
use Rattle.hx_ebtree.proofs.ChangeLemmas.{down_branch, down_leaf, hole_in, rehang, surrounds_down}
use Rattle.hx_ebtree.proofs.RemoveLemmas.{fork_place, by_above, by_hole, by_held, moved, off_number}

-- a node whose branch part is used by a fork has one in use
pub holder_has : (f : Leaves) (g : Forks) (up : Option Up) (s : Shape) (down : Down) (k : ℕ) → HangsAt f g up s down → IsIn k (holders s) → (b : Fork) × (g k ≡ Some b)
holder_has f g up (leaf key id more) down k at p = absurd p
holder_has f g up (fork h sh l r) down k at (inl e) = (_, ap g e ∙ at.2.here)
holder_has f g up (fork h sh l r) down k at (inr p) = elim (in_either (holders l) (holders r) k p) as (λ _. (b : Fork) × (g k ≡ Some b)) [
  | inl q ↦ holder_has f g (left_of h) l at.0 k at.3 q
  | inr q ↦ holder_has f g (right_of h) r at.1 k at.4 q
]

-- the same, but for the leaf or the branch that is pointed to
pub down_has : (f : Leaves) (g : Forks) (up : Option Up) (s : Shape) (down : Down) → HangsAt f g up s down → ((part : LeafPart) × (f (node_of down) ≡ Some part)) ⊎ ((b : Fork) × (g (node_of down) ≡ Some b))
down_has f g up (leaf key id more) down at = inl (at.part, ap f (ap node_of at.points) ∙ at.here)
down_has f g up (fork h sh l r) down at = inr (_, ap g (ap node_of at.2.points) ∙ at.2.here)

pub around_has : (f : Leaves) (g : Forks) (at_root : Option Down) (c : ShapeContext) (down : Down) (u : Up) → SurroundsAt f g at_root c down → hole_up c ≡ Some u → (b : Fork) × (g u.node ≡ Some b)
around_has f g at_root root down u at e = cc
around_has f g at_root (on_left c h sh r) down u at e = let same : u ≡ record { node = h; right = false } = cc in (_, ap g (ap (λ (v : Up). v.node) same) ∙ at.1.here)
around_has f g at_root (on_right c h sh l) down u at e = let same : u ≡ record { node = h; right = true } = cc in (_, ap g (ap (λ (v : Up). v.node) same) ∙ at.1.here)

pub down_number : (f : Leaves) (g : Forks) (up : Option Up) (s : Shape) (down : Down) → HangsAt f g up s down → IsIn (node_of down) (numbers s) ⊎ IsIn (node_of down) (holders s)
down_number f g up (leaf key id more) down at = inl (inl (ap node_of at.points))
down_number f g up (fork h sh l r) down at = inr (inl (ap node_of at.2.points))

module _ (f : Leaves) (g : Forks) (at_root : Option Down) (id y : ℕ) (s : Shape) (pairs : KeyList) (d : IsDetached f g at_root id y s pairs) where
  -- but for the node that left, those whose branch parts are in use are nodes of the tree
  pub held_number : (k : ℕ) → k ≢ id → IsIn k (holders s) → IsIn k (numbers s)
  held_number k other p = front_number s k (in_same (fronts s) k (d.place k) (d.stays k other) (by_held d.place s k d.above p))

  -- nothing is left to do where the node that left has no branch part in use
  pub stands_idle : g id ≡ None → StandsAs f g at_root (Some s) pairs
  stands_idle none =
      let unheld : IsIn id (holders s) → ⊥ = λ p. let b = holder_has f g None s d.hangs.0 id d.hangs.2 p in let e : Some b.0 ≡ None = sym b.1 ∙ none in cc in
      record {
        hangs = d.hangs;
        sound = record {
          keyed = d.keyed;
          above = by_above d.place s d.above (λ k p. d.stays k (λ e. unheld (in_same (holders s) id k e p)));
          numbers = d.distinct;
          holders = d.distinct_holders;
        };
        idle = λ k p off. d.idle k (inr p) off;
        same = d.same;
      }

  pub held_if : (part : Fork) → g id ≡ Some part → IsIn id (holders s) ⊎ (IsIn id (holders s) → ⊥) → IsIn id (holders s)
  held_if part has (inl p) = p
  held_if part has (inr off) = let none : g id ≡ None = d.idle id (inl refl) off in let e : Some part ≡ None = sym has ∙ none in cc

-- a number is in a list, or not
pub in_cases : (xs : List ℕ) (k : ℕ) → IsIn k xs ⊎ (IsIn k xs → ⊥)
in_cases [] k = inr (λ p. p)
in_cases (x ∷ xs) k = elim (cases_eq k x) as (λ _. IsIn k (x ∷ xs) ⊎ (IsIn k (x ∷ xs) → ⊥)) [
  | inl e ↦ inl (inl e)
  | inr d ↦ elim (in_cases xs k) as (λ _. IsIn k (x ∷ xs) ⊎ (IsIn k (x ∷ xs) → ⊥)) [
    | inl p ↦ inl (inr p)
    | inr off ↦ inr (λ p. elim p as (λ _. ⊥) [ inl e ↦ d e | inr q ↦ off q ])
  ]
]

module _ (f : Leaves) (g : Forks) (at_root : Option Down) (c : ShapeContext) (sh : List Bool) (l r : Shape) (id y : ℕ) (pairs : KeyList)
    (d : IsDetached f g at_root id y (plug c (fork id sh l r)) pairs) (part : Fork) (has : g id ≡ Some part) where
  abbrev old : Shape
  old = fork id sh l r

  abbrev new : Shape
  new = fork y sh l r

  pub opened : (down : Down) × Holds f g at_root c old down
  opened = plug_open f g at_root c old d.hangs

  pub inside : HangsAt f g (hole_up c) old opened.0
  inside = opened.1.inside

  pub part_is : part ≡ record { bit = length sh; left = inside.0; right = inside.1; up = hole_up c }
  part_is = let e : Some part ≡ Some (record { bit = length sh; left = inside.0; right = inside.1; up = hole_up c }) = sym has ∙ inside.2.here in cc

  pub id_held : IsIn id (holders (plug c old))
  id_held = plug_in none_of only_of c old id (inl (inl refl))

  y_free : IsIn y (holders (plug c old)) → ⊥
  y_free = d.free id_held

  y_other : y ≢ id
  y_other e = y_free (in_same (holders (plug c old)) y id (sym e) id_held)

  pub parted : AreParted (numbers l ++ numbers r) (numbers_around c)
  parted = plug_parted all_of nothing_of c old d.distinct

  pub held : AreParted (id ∷ (holders l ++ holders r)) (holders_around c)
  held = plug_parted none_of only_of c old d.distinct_holders

  -- which nodes are apart
  y_off_l : (k : ℕ) → IsIn k (holders l) → k ≢ y
  y_off_l k p e = y_free (plug_in none_of only_of c old y (inl (inr (in_left (holders l) (holders r) y (in_same (holders l) y k e p)))))

  y_off_r : (k : ℕ) → IsIn k (holders r) → k ≢ y
  y_off_r k p e = y_free (plug_in none_of only_of c old y (inl (inr (in_right (holders l) (holders r) y (in_same (holders r) y k e p)))))

  y_off_c : (k : ℕ) → IsIn k (holders_around c) → k ≢ y
  y_off_c k p e = y_free (plug_in none_of only_of c old y (inr (in_same (holders_around c) y k e p)))

  pub id_off_l : (k : ℕ) → IsIn k (holders l) → k ≢ id
  id_off_l k p e = held.first.0 (in_left (holders l) (holders r) id (in_same (holders l) id k e p))

  pub id_off_r : (k : ℕ) → IsIn k (holders r) → k ≢ id
  id_off_r k p e = held.first.0 (in_right (holders l) (holders r) id (in_same (holders r) id k e p))

  id_off_c : (k : ℕ) → IsIn k (holders_around c) → k ≢ id
  id_off_c k p e = held.apart id (inl refl) (in_same (holders_around c) id k e p)

  -- which nodes the move touches
  pub taker_number : IsIn y (numbers (plug c old))
  taker_number = front_number (plug c old) y (in_same (fronts (plug c old)) y (d.place id) (d.moved id_held) (by_held d.place (plug c old) id d.above id_held))

  pub left_number : IsIn (node_of part.left) (numbers (plug c old))
  left_number =
      let n = node_of inside.0 in
      let p : IsIn n (numbers (plug c old)) = elim (down_number f g (left_of id) l inside.0 inside.3) as (λ _. IsIn n (numbers (plug c old))) [
        | inl q ↦ plug_in all_of nothing_of c old n (inl (in_left (numbers l) (numbers r) n q))
        | inr q ↦ held_number f g at_root id y (plug c old) pairs d n (id_off_l n q) (plug_in none_of only_of c old n (inl (inr (in_left (holders l) (holders r) n q))))
      ] in
      in_same (numbers (plug c old)) (node_of part.left) n (sym (ap (λ (b : Fork). node_of b.left) part_is)) p

  pub right_number : IsIn (node_of part.right) (numbers (plug c old))
  right_number =
      let n = node_of inside.1 in
      let p : IsIn n (numbers (plug c old)) = elim (down_number f g (right_of id) r inside.1 inside.4) as (λ _. IsIn n (numbers (plug c old))) [
        | inl q ↦ plug_in all_of nothing_of c old n (inl (in_right (numbers l) (numbers r) n q))
        | inr q ↦ held_number f g at_root id y (plug c old) pairs d n (id_off_r n q) (plug_in none_of only_of c old n (inl (inr (in_right (holders l) (holders r) n q))))
      ] in
      in_same (numbers (plug c old)) (node_of part.right) n (sym (ap (λ (b : Fork). node_of b.right) part_is)) p

  pub up_number : (u : Up) → part.up ≡ Some u → IsIn u.node (numbers (plug c old))
  up_number u e =
      let p : IsIn u.node (holders_around c) = hole_in c u u.node (sym (ap (λ (b : Fork). b.up) part_is) ∙ e) refl in
      held_number f g at_root id y (plug c old) pairs d u.node (id_off_c u.node p) (plug_in none_of only_of c old u.node (inr p))

  pub left_has : ((w : LeafPart) × (f (node_of part.left) ≡ Some w)) ⊎ ((b : Fork) × (g (node_of part.left) ≡ Some b))
  left_has = subst (λ n. ((w : LeafPart) × (f n ≡ Some w)) ⊎ ((b : Fork) × (g n ≡ Some b))) (sym (ap (λ (b : Fork). node_of b.left) part_is)) (down_has f g (left_of id) l inside.0 inside.3)

  pub right_has : ((w : LeafPart) × (f (node_of part.right) ≡ Some w)) ⊎ ((b : Fork) × (g (node_of part.right) ≡ Some b))
  right_has = subst (λ n. ((w : LeafPart) × (f n ≡ Some w)) ⊎ ((b : Fork) × (g n ≡ Some b))) (sym (ap (λ (b : Fork). node_of b.right) part_is)) (down_has f g (right_of id) r inside.1 inside.4)

  pub up_has : (u : Up) → part.up ≡ Some u → (b : Fork) × (g u.node ≡ Some b)
  up_has u e = around_has f g at_root c opened.0 u opened.1.around (sym (ap (λ (b : Fork). b.up) part_is) ∙ e)

  module _ (f' : Leaves) (g' : Forks) (root' : Option Down) (change : MovesPart f g at_root f' g' root' id y part) where
    left : SetsUp change.f1 change.g1 change.f2 change.g2 inside.0 (left_of y)
    left = subst (λ (b : Fork). SetsUp change.f1 change.g1 change.f2 change.g2 b.left (left_of y)) part_is change.left

    right : SetsUp change.f2 change.g2 change.f3 change.g3 inside.1 (right_of y)
    right = subst (λ (b : Fork). SetsUp change.f2 change.g2 change.f3 change.g3 b.right (right_of y)) part_is change.right

    down : SetsDown change.f3 change.g3 at_root change.f4 change.g4 root' (hole_up c) (Branch y)
    down = subst (λ (b : Fork). SetsDown change.f3 change.g3 at_root change.f4 change.g4 root' b.up (Branch y)) part_is change.down

    left_leaf : (k : ℕ) → inside.0 ≡ Leaf k → IsIn k (numbers l)
    left_leaf k e = down_leaf f g (left_of id) l inside.0 k inside.3 e

    left_branch : (k : ℕ) → inside.0 ≡ Branch k → IsIn k (holders l)
    left_branch k e = down_branch f g (left_of id) l inside.0 k inside.3 e

    right_leaf : (k : ℕ) → inside.1 ≡ Leaf k → IsIn k (numbers r)
    right_leaf k e = down_leaf f g (right_of id) r inside.1 k inside.4 e

    right_branch : (k : ℕ) → inside.1 ≡ Branch k → IsIn k (holders r)
    right_branch k e = down_branch f g (right_of id) r inside.1 k inside.4 e

    up_around : (k : ℕ) (u : Up) → hole_up c ≡ Some u → u.node ≡ k → IsIn k (holders_around c)
    up_around k u e n = hole_in c u k e n

    parted_sides : (k : ℕ) → IsIn k (numbers l) → IsIn k (numbers r) → ⊥
    parted_sides = distinct_apart (numbers l) (numbers r) parted.first

    held_sides : (k : ℕ) → IsIn k (holders l) → IsIn k (holders r) → ⊥
    held_sides = distinct_apart (holders l) (holders r) held.first.1

    held_l : (k : ℕ) → IsIn k (holders l) → IsIn k (holders_around c) → ⊥
    held_l k p q = held.apart k (inr (in_left (holders l) (holders r) k p)) q

    held_r : (k : ℕ) → IsIn k (holders r) → IsIn k (holders_around c) → ⊥
    held_r k p q = held.apart k (inr (in_right (holders l) (holders r) k p)) q

    -- the left side
    l1 : HangsAt change.f1 change.g1 (left_of id) l inside.0
    l1 = hangs_frame f change.f1 g change.g1 (left_of id) l inside.0 (λ k _. change.put.leaves k) (λ k p. change.put.forks k (y_off_l k p)) inside.3

    l2 : HangsAt change.f2 change.g2 (left_of y) l inside.0
    l2 = rehang change.f1 change.g1 change.f2 change.g2 inside.0 (left_of y) left (left_of id) l (distinct_left (holders l) (holders r) held.first.1) l1

    l3 : HangsAt change.f3 change.g3 (left_of y) l inside.0
    l3 = hangs_frame change.f2 change.f3 change.g2 change.g3 (left_of y) l inside.0
        (λ k p. right.leaves k (λ e. parted_sides k p (right_leaf k e))) (λ k p. right.forks k (λ e. held_sides k p (right_branch k e))) l2

    l4 : HangsAt change.f4 change.g4 (left_of y) l inside.0
    l4 = hangs_frame change.f3 change.f4 change.g3 change.g4 (left_of y) l inside.0
        (λ k _. down.leaves k) (λ k p. down.forks k (λ u e n. held_l k p (up_around k u e n))) l3

    l5 : HangsAt f' g' (left_of y) l inside.0
    l5 = hangs_frame change.f4 f' change.g4 g' (left_of y) l inside.0 (λ k _. change.freed.leaves k) (λ k p. change.freed.forks k (id_off_l k p)) l4

    -- the right side
    r2 : HangsAt change.f2 change.g2 (right_of id) r inside.1
    r2 = hangs_frame change.f1 change.f2 change.g1 change.g2 (right_of id) r inside.1
        (λ k p. left.leaves k (λ e. parted_sides k (left_leaf k e) p)) (λ k p. left.forks k (λ e. held_sides k (left_branch k e) p))
        (hangs_frame f change.f1 g change.g1 (right_of id) r inside.1 (λ k _. change.put.leaves k) (λ k p. change.put.forks k (y_off_r k p)) inside.4)

    r3 : HangsAt change.f3 change.g3 (right_of y) r inside.1
    r3 = rehang change.f2 change.g2 change.f3 change.g3 inside.1 (right_of y) right (right_of id) r (distinct_right (holders l) (holders r) held.first.1) r2

    r5 : HangsAt f' g' (right_of y) r inside.1
    r5 = hangs_frame change.f4 f' change.g4 g' (right_of y) r inside.1 (λ k _. change.freed.leaves k) (λ k p. change.freed.forks k (id_off_r k p))
        (hangs_frame change.f3 change.f4 change.g3 change.g4 (right_of y) r inside.1
        (λ k _. down.leaves k) (λ k p. down.forks k (λ u e n. held_r k p (up_around k u e n))) r3)

    -- what is around
    c1 : SurroundsAt change.f1 change.g1 at_root c opened.0
    c1 = surrounds_frame f change.f1 g change.g1 at_root c opened.0 (λ k _. change.put.leaves k) (λ k p. change.put.forks k (y_off_c k p)) opened.1.around

    c2 : SurroundsAt change.f2 change.g2 at_root c opened.0
    c2 = surrounds_frame change.f1 change.f2 change.g1 change.g2 at_root c opened.0
        (λ k p. left.leaves k (λ e. parted.apart k (in_left (numbers l) (numbers r) k (left_leaf k e)) p)) (λ k p. left.forks k (λ e. held_l k (left_branch k e) p)) c1

    c3 : SurroundsAt change.f3 change.g3 at_root c opened.0
    c3 = surrounds_frame change.f2 change.f3 change.g2 change.g3 at_root c opened.0
        (λ k p. right.leaves k (λ e. parted.apart k (in_right (numbers l) (numbers r) k (right_leaf k e)) p)) (λ k p. right.forks k (λ e. held_r k (right_branch k e) p)) c2

    c5 : SurroundsAt f' g' root' c (Branch y)
    c5 = surrounds_frame change.f4 f' change.g4 g' root' c (Branch y) (λ k _. change.freed.leaves k) (λ k p. change.freed.forks k (id_off_c k p))
        (surrounds_down change.f3 change.g3 at_root change.f4 change.g4 root' c opened.0 (Branch y) down held.second c3)

    -- the branch itself
    left_branch_held : (k : ℕ) → inside.0 ≡ Branch k → IsIn k (holders (plug c old))
    left_branch_held k e = plug_in none_of only_of c old k (inl (inr (in_left (holders l) (holders r) k (left_branch k e))))

    right_branch_held : (k : ℕ) → inside.1 ≡ Branch k → IsIn k (holders (plug c old))
    right_branch_held k e = plug_in none_of only_of c old k (inl (inr (in_right (holders l) (holders r) k (right_branch k e))))

    up_held : (k : ℕ) (u : Up) → hole_up c ≡ Some u → u.node ≡ k → IsIn k (holders (plug c old))
    up_held k u e n = plug_in none_of only_of c old k (inr (up_around k u e n))

    -- the branch part of a node that has none in use before and isn't y stays so
    others : (k : ℕ) → (IsIn k (holders (plug c old)) → ⊥) → g' k ≡ change.g1 k
    others k off =
        change.freed.forks k (λ e. off (in_same (holders (plug c old)) k id (sym e) id_held))
        ∙ down.forks k (λ u e n. off (up_held k u e n))
        ∙ right.forks k (λ e. off (right_branch_held k e))
        ∙ left.forks k (λ e. off (left_branch_held k e))

    here : g' y ≡ Some (record { bit = length sh; left = inside.0; right = inside.1; up = hole_up c })
    here = others y y_free ∙ change.put.here ∙ ap Some part_is

    above : IsAbove (plug c new)
    above =
        let own = by_hole d.place c old d.above in
        moved d.place c old new refl d.above (
          in_same (fronts l ++ fronts r) y (d.place id) (d.moved id_held) own.0,
          by_above d.place l own.1 (λ k p. d.stays k (id_off_l k p)),
          by_above d.place r own.2 (λ k p. d.stays k (id_off_r k p)),
        )
        (λ k p. d.stays k (id_off_c k p))

    pub stands_moved : StandsAs f' g' root' (Some (plug c new)) pairs
    stands_moved = record {
      hangs = plug_close f' g' root' c new (Branch y) (record { around = c5; inside = (inside.0, inside.1, record { points = refl; here = here }, l5, r5) });
      sound = record {
        keyed = keyed_replace c old new d.keyed (keyed_hole c old d.keyed);
        above = above;
        numbers = plug_distinct all_of nothing_of c new parted;
        holders = plug_distinct none_of only_of c new (record {
          first = ((λ p. elim (in_either (holders l) (holders r) y p) as (λ _. ⊥) [ inl q ↦ y_off_l y q refl | inr q ↦ y_off_r y q refl ]), held.first.1);
          second = held.second;
          apart = λ k p q. elim p as (λ _. ⊥) [ inl e ↦ y_off_c k q e | inr w ↦ held.apart k (inr w) q ];
        });
      };
      idle = λ k p off.
          let other : k ≢ y = λ e. off (plug_in none_of only_of c new k (inl (inl e))) in
          let was : IsIn k (numbers (plug c old)) = elim (plug_either all_of nothing_of c new k p) as (λ _. IsIn k (numbers (plug c old))) [
            | inl q ↦ plug_in all_of nothing_of c old k (inl q)
            | inr q ↦ plug_in all_of nothing_of c old k (inr q)
          ] in
          let unheld : IsIn k (holders (plug c old)) → ⊥ = λ q. elim (plug_either none_of only_of c old k q) as (λ _. ⊥) [
            | inl w ↦ elim w as (λ _. ⊥) [ inl e ↦ d.gone (in_same (numbers (plug c old)) id k e was) | inr v ↦ off (plug_in none_of only_of c new k (inl (inr v))) ]
            | inr w ↦ off (plug_in none_of only_of c new k (inr w))
          ] in
          others k unheld ∙ change.put.forks k other ∙ d.idle k (inr was) unheld;
      same = λ k. d.same k ∙ sym (numbers_replace c old new k refl);
    }

-- where the branch of the node that left is
pub record PartPlace (f : Leaves) (g : Forks) (at_root : Option Down) (id y : ℕ) (pairs : KeyList) : Type 0 where
  pub context : ShapeContext
  pub shared : List Bool
  pub left : Shape
  pub right : Shape
  pub detached : IsDetached f g at_root id y (plug context (fork id shared left right)) pairs

pub part_place : (f : Leaves) (g : Forks) (at_root : Option Down) (id y : ℕ) (shape : Option Shape) (pairs : KeyList) (part : Fork) → IsWithout f g at_root id y shape pairs → g id ≡ Some part → PartPlace f g at_root id y pairs
part_place f g at_root id y None pairs part w has = let e : Some part ≡ None = sym has ∙ w.1 in cc
part_place f g at_root id y (Some s) pairs part d has =
    let p = fork_place root s id (held_if f g at_root id y s pairs d part has (in_cases (holders s) id)) in
    record {
      context = p.context;
      shared = p.shared;
      left = p.left;
      right = p.right;
      detached = subst (λ w. IsDetached f g at_root id y w pairs) p.is d;
    }

pub stands_part : (f : Leaves) (g : Forks) (at_root : Option Down) (id y : ℕ) (shape : Option Shape) (pairs : KeyList) (part : Fork) (f' : Leaves) (g' : Forks) (root' : Option Down) → IsWithout f g at_root id y shape pairs → g id ≡ Some part → MovesPart f g at_root f' g' root' id y part → (now : Option Shape) × StandsAs f' g' root' now pairs
stands_part f g at_root id y shape pairs part f' g' root' w has change =
    let p = part_place f g at_root id y shape pairs part w has in
    (Some (plug p.context (fork y p.shared p.left p.right)), stands_moved f g at_root p.context p.shared p.left p.right id y pairs p.detached part has f' g' root' change)

pub stands_none : (f : Leaves) (g : Forks) (at_root : Option Down) (id y : ℕ) (shape : Option Shape) (pairs : KeyList) → IsWithout f g at_root id y shape pairs → g id ≡ None → StandsAs f g at_root shape pairs
stands_none f g at_root id y None pairs w none = record { hangs = w.0; sound = tt; idle = tt; same = w.2 }
stands_none f g at_root id y (Some s) pairs d none = stands_idle f g at_root id y s pairs d none

module _ (f : Leaves) (g : Forks) (at_root : Option Down) (id y : ℕ) (shape : Option Shape) (pairs : KeyList) (w : IsWithout f g at_root id y shape pairs) (part : Fork) (has : g id ≡ Some part) where
  abbrev at : PartPlace f g at_root id y pairs
  at = part_place f g at_root id y shape pairs part w has

  pub part_left : ((v : LeafPart) × (f (node_of part.left) ≡ Some v)) ⊎ ((b : Fork) × (g (node_of part.left) ≡ Some b))
  part_left = left_has f g at_root at.context at.shared at.left at.right id y pairs at.detached part has

  pub part_right : ((v : LeafPart) × (f (node_of part.right) ≡ Some v)) ⊎ ((b : Fork) × (g (node_of part.right) ≡ Some b))
  part_right = right_has f g at_root at.context at.shared at.left at.right id y pairs at.detached part has

  pub part_up : (u : Up) → part.up ≡ Some u → (b : Fork) × (g u.node ≡ Some b)
  part_up = up_has f g at_root at.context at.shared at.left at.right id y pairs at.detached part has

  pub part_off : (k : ℕ) → IsOff k pairs → (k ≢ y) × (k ≢ node_of part.left) × (k ≢ node_of part.right) × ((u : Up) → part.up ≡ Some u → u.node ≢ k)
  part_off k off =
      let whole = plug at.context (fork id at.shared at.left at.right) in
      let out : (j : ℕ) → IsIn j (numbers whole) → k ≢ j = λ j p e. off_number whole pairs at.detached.same k off (in_same (numbers whole) k j (sym e) p) in (
        out y (taker_number f g at_root at.context at.shared at.left at.right id y pairs at.detached part has),
        out (node_of part.left) (left_number f g at_root at.context at.shared at.left at.right id y pairs at.detached part has),
        out (node_of part.right) (right_number f g at_root at.context at.shared at.left at.right id y pairs at.detached part has),
        λ u e n. out u.node (up_number f g at_root at.context at.shared at.left at.right id y pairs at.detached part has u e) (sym n),
      )
