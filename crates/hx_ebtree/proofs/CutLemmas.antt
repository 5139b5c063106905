-- A leaf that is alone goes, and with it the branch that it hung at.
use Rattle.std.proofs.Common.{◌≡◌, ◌≢◌, ◌⊎◌, ℕ, Bool, true, false, List, [], ◌∷◌, ◌++◌, Option, Some, None, refl, sym, ap, subst, ◌∙◌, inl, inr}
use Rattle.std.proofs.lemmas.Bool.{cases_eq}
use Rattle.std.proofs.lemmas.List.{append-nil}
use Rattle.hx_pool.specs.Chain.{IsIn, AreDistinct}
use Rattle.hx_pool.proofs.ChainLemmas.{in_left, in_right, in_either, in_same, distinct_left, distinct_apart}
use Rattle.hx_ebtree.specs.declared.node.Down.{Down}
use Rattle.hx_ebtree.specs.declared.node.Down.TheVariants.{Branch}
use Rattle.hx_ebtree.specs.declared.node.Up.{Up}
use Rattle.hx_ebtree.specs.KeyList.{KeyList, numbers_of, without}
use Rattle.hx_ebtree.specs.Shape.{Shape, leaf, fork, pairs_of, numbers, fronts, holders, all_of, none_of, nothing_of, only_of, IsKeyed, IsAbove, IsSound, Leaves, Forks, HangsAt, with_key}
use Rattle.hx_ebtree.specs.ShapeContext.{ShapeContext, plug, hole_up, hole_shared, SurroundsAt}
use Rattle.hx_ebtree.specs.Tree.{IsIdle}
use Rattle.hx_ebtree.specs.Remove.{Cuts, IsDetached}
use Rattle.hx_ebtree.proofs.ShapeLemmas.{AreParted, plug_parted, plug_distinct, plug_in, plug_either, hangs_frame, surrounds_frame, numbers_around, holders_around, plug_close}
use Rattle.hx_ebtree.proofs.PairLemmas.{numbers_append, keyed_listed}
use Rattle.hx_ebtree.proofs.KeyedLemmas.{keyed_weaker, keyed_hole, keyed_replace, front_number, shape_ids}
use Rattle.hx_ebtree.proofs.CodeLemmas.{prefix_on}
use Rattle.hx_ebtree.proofs.ChangeLemmas.{down_branch, down_leaf, hole_in, rehang, surrounds_down}
use Rattle.hx_ebtree.proofs.WholeLemmas.{holder_number}
use Rattle.hx_ebtree.proofs.RemoveLemmas.{above_by, by_replace, place_of, place_there, place_other, front_around, some_front, without_number, without_append, without_off, less_leaf, less_pairs}

-- t is the other side of the branch s, which m holds and at which the leaf of id alone hangs
pub record IsOther (s t : Shape) (id m : ℕ) : Type 0 where
  pub numbers_in : (k : ℕ) → IsIn k (numbers t) → IsIn k (numbers s)
  pub id_in : IsIn id (numbers s)
  pub distinct : AreDistinct (numbers t)
  pub off : IsIn id (numbers t) → ⊥
  pub holders_in : (k : ℕ) → IsIn k (holders t) → IsIn k (holders s)
  pub m_in : IsIn m (holders s)
  pub holders_of : (k : ℕ) → IsIn k (holders s) → (k ≡ m) ⊎ IsIn k (holders t)
  pub distinct_holders : AreDistinct (holders t)
  pub m_off : IsIn m (holders t) → ⊥
  pub above : IsAbove t
  pub fronts_of : (k : ℕ) → IsIn k (fronts s) → (k ≡ id) ⊎ IsIn k (fronts t)
  pub m_front : IsIn m (fronts s)
  pub keyed : (p : List Bool) → IsKeyed p s → IsKeyed p t
  pub less : (k : List Bool) → numbers_of k (pairs_of t) ≡ without_number id (numbers_of k (pairs_of s))

off_pairs : (s : Shape) (id : ℕ) (k : List Bool) → (IsIn id (numbers s) → ⊥) → IsIn id (numbers_of k (pairs_of s)) → ⊥
off_pairs s id k off p = off (subst (IsIn id) (shape_ids s) (keyed_listed k (pairs_of s) id p))

-- the leaf hung on the left, or on the right
pub other_right : (m : ℕ) (sh key : List Bool) (id : ℕ) (r : Shape) → AreDistinct (numbers (fork m sh (leaf key id []) r)) → AreDistinct (holders (fork m sh (leaf key id []) r)) → IsAbove (fork m sh (leaf key id []) r) → IsOther (fork m sh (leaf key id []) r) r id m
other_right m sh key id r dn dh above = record {
  numbers_in = λ k p. inr p;
  id_in = inl refl;
  distinct = dn.1;
  off = dn.0;
  holders_in = λ k p. inr p;
  m_in = inl refl;
  holders_of = λ k p. p;
  distinct_holders = dh.1;
  m_off = dh.0;
  above = above.2;
  fronts_of = λ k p. p;
  m_front = above.0;
  keyed = λ p k. keyed_weaker p (sh ++ true ∷ []) r (prefix_on p sh (sh ++ true ∷ []) k.0 (true ∷ [], refl)) k.2;
  less = λ k.
      sym (ap (without_number id) (numbers_append k (with_key key (id ∷ [])) (pairs_of r))
      ∙ without_append id (numbers_of k (with_key key (id ∷ []))) (numbers_of k (pairs_of r))
      ∙ ap (λ w. w ++ without_number id (numbers_of k (pairs_of r))) (sym (less_leaf k key id [] (λ p. p)))
      ∙ without_off id (numbers_of k (pairs_of r)) (off_pairs r id k dn.0));
}

pub other_left : (m : ℕ) (sh key : List Bool) (id : ℕ) (l : Shape) → AreDistinct (numbers (fork m sh l (leaf key id []))) → AreDistinct (holders (fork m sh l (leaf key id []))) → IsAbove (fork m sh l (leaf key id [])) → IsOther (fork m sh l (leaf key id [])) l id m
other_left m sh key id l dn dh above =
    let off : IsIn id (numbers l) → ⊥ = λ p. distinct_apart (numbers l) (id ∷ []) dn id p (inl refl) in
    record {
      numbers_in = λ k p. in_left (numbers l) (id ∷ []) k p;
      id_in = in_right (numbers l) (id ∷ []) id (inl refl);
      distinct = distinct_left (numbers l) (id ∷ []) dn;
      off = off;
      holders_in = λ k p. inr (in_left (holders l) [] k p);
      m_in = inl refl;
      holders_of = λ k p. elim p as (λ _. (k ≡ m) ⊎ IsIn k (holders l)) [ inl e ↦ inl e | inr q ↦ inr (subst (IsIn k) (append-nil (holders l)) q) ];
      distinct_holders = distinct_left (holders l) [] dh.1;
      m_off = λ p. dh.0 (in_left (holders l) [] m p);
      above = above.1;
      fronts_of = λ k p. elim (in_either (fronts l) (id ∷ []) k p) as (λ _. (k ≡ id) ⊎ IsIn k (fronts l)) [
        | inl q ↦ inr q
        | inr q ↦ elim q as (λ _. (k ≡ id) ⊎ IsIn k (fronts l)) [ inl e ↦ inl e | inr w ↦ absurd w ]
      ];
      m_front = above.0;
      keyed = λ p k. keyed_weaker p (sh ++ false ∷ []) l (prefix_on p sh (sh ++ false ∷ []) k.0 (false ∷ [], refl)) k.1;
      less = λ k.
          sym (ap (without_number id) (numbers_append k (pairs_of l) (with_key key (id ∷ [])))
          ∙ without_append id (numbers_of k (pairs_of l)) (numbers_of k (with_key key (id ∷ [])))
          ∙ ap (λ w. without_number id (numbers_of k (pairs_of l)) ++ w) (sym (less_leaf k key id [] (λ p. p)))
          ∙ append-nil (without_number id (numbers_of k (pairs_of l)))
          ∙ without_off id (numbers_of k (pairs_of l)) (off_pairs l id k off));
    }

module _ (f : Leaves) (g : Forks) (at_root : Option Down) (f' : Leaves) (g' : Forks) (root' : Option Down)
    (c : ShapeContext) (s t : Shape) (id m : ℕ) (up : Option Up) (other : Down) (pairs : KeyList)
    (side : IsOther s t id m) (sound : IsSound (plug c s)) (idle : IsIdle g (Some (plug c s)))
    (same : (k : List Bool) → numbers_of k pairs ≡ numbers_of k (pairs_of (plug c s)))
    (cut : Cuts f g at_root f' g' root' m (hole_up c) other)
    (around : SurroundsAt f g at_root c (Branch m)) (hangs : HangsAt f g up t other) where
  parted : AreParted (numbers s) (numbers_around c)
  parted = plug_parted all_of nothing_of c s sound.numbers

  held : AreParted (holders s) (holders_around c)
  held = plug_parted none_of only_of c s sound.holders

  up_in_around : (k : ℕ) (u : Up) → hole_up c ≡ Some u → u.node ≡ k → IsIn k (holders_around c)
  up_in_around k u e n = hole_in c u k e n

  inside1 : HangsAt cut.f1 cut.g1 (hole_up c) t other
  inside1 = rehang f g cut.f1 cut.g1 other (hole_up c) cut.hung up t side.distinct_holders hangs

  around1 : SurroundsAt cut.f1 cut.g1 at_root c (Branch m)
  around1 = surrounds_frame f cut.f1 g cut.g1 at_root c (Branch m)
      (λ k p. cut.hung.leaves k (λ e. parted.apart k (side.numbers_in k (down_leaf f g up t other k hangs e)) p))
      (λ k p. cut.hung.forks k (λ e. held.apart k (side.holders_in k (down_branch f g up t other k hangs e)) p)) around

  around2 : SurroundsAt cut.f2 cut.g2 root' c other
  around2 = surrounds_down cut.f1 cut.g1 at_root cut.f2 cut.g2 root' c (Branch m) other cut.down held.second around1

  inside2 : HangsAt cut.f2 cut.g2 (hole_up c) t other
  inside2 = hangs_frame cut.f1 cut.f2 cut.g1 cut.g2 (hole_up c) t other (λ k _. cut.down.leaves k)
      (λ k p. cut.down.forks k (λ u e n. held.apart k (side.holders_in k p) (up_in_around k u e n))) inside1

  around3 : SurroundsAt f' g' root' c other
  around3 = surrounds_frame cut.f2 f' cut.g2 g' root' c other (λ k _. cut.freed.leaves k)
      (λ k p. cut.freed.forks k (λ e. held.apart k (in_same (holders s) k m (sym e) side.m_in) p)) around2

  inside3 : HangsAt f' g' (hole_up c) t other
  inside3 = hangs_frame cut.f2 f' cut.g2 g' (hole_up c) t other (λ k _. cut.freed.leaves k)
      (λ k p. cut.freed.forks k (λ e. side.m_off (in_same (holders t) m k e p))) inside2

  -- a first node that stays, which is m unless m is the one that leaves
  other_front : (y : ℕ) × IsIn y (fronts t) × (m ≢ id → y ≡ m)
  other_front = elim (cases_eq m id) as (λ _. (y : ℕ) × IsIn y (fronts t) × (m ≢ id → y ≡ m)) [
    | inl e ↦ let p = some_front t in (p.0, p.1, λ d. absurd (d e))
    | inr d ↦ (m, elim (side.fronts_of m side.m_front) as (λ _. IsIn m (fronts t)) [ inl e ↦ absurd (d e) | inr q ↦ q ], λ _. refl)
  ]

  m_gone : IsIn m (holders (plug c t)) → ⊥
  m_gone p = elim (plug_either none_of only_of c t m p) as (λ _. ⊥) [ inl q ↦ side.m_off q | inr q ↦ held.apart m side.m_in q ]

  off_t : (k : ℕ) → IsIn k (numbers t) → k ≢ id
  off_t k p e = side.off (in_same (numbers t) id k e p)

  off_c : (k : ℕ) → IsIn k (numbers_around c) → k ≢ id
  off_c k p e = parted.apart id side.id_in (in_same (numbers_around c) id k e p)

  was_number : (k : ℕ) → IsIn k (id ∷ numbers (plug c t)) → IsIn k (numbers (plug c s))
  was_number k (inl e) = plug_in all_of nothing_of c s k (inl (in_same (numbers s) k id (sym e) side.id_in))
  was_number k (inr p) = elim (plug_either all_of nothing_of c t k p) as (λ _. IsIn k (numbers (plug c s))) [
    | inl q ↦ plug_in all_of nothing_of c s k (inl (side.numbers_in k q))
    | inr q ↦ plug_in all_of nothing_of c s k (inr q)
  ]

  unheld : (k : ℕ) → k ≢ m → (IsIn k (holders (plug c t)) → ⊥) → IsIn k (holders (plug c s)) → ⊥
  unheld k d off p = elim (plug_either none_of only_of c s k p) as (λ _. ⊥) [
    | inl q ↦ elim (side.holders_of k q) as (λ _. ⊥) [ inl e ↦ d e | inr w ↦ off (plug_in none_of only_of c t k (inl w)) ]
    | inr q ↦ off (plug_in none_of only_of c t k (inr q))
  ]

  idle_then : (k : ℕ) → IsIn k (id ∷ numbers (plug c t)) → (IsIn k (holders (plug c t)) → ⊥) → g' k ≡ None
  idle_then k p off = elim (cases_eq k m) as (λ _. g' k ≡ None) [
    | inl e ↦ ap g' e ∙ cut.freed.here
    | inr d ↦
        cut.freed.forks k d
        ∙ cut.down.forks k (λ u e n. off (plug_in none_of only_of c t k (inr (up_in_around k u e n))))
        ∙ cut.hung.forks k (λ e. off (plug_in none_of only_of c t k (inl (down_branch f g up t other k hangs e))))
        ∙ idle k (was_number k p) (unheld k d off)
  ]

  pub detached_other : IsDetached f' g' root' id m (plug c t) (without id pairs)
  detached_other = record {
    hangs = plug_close f' g' root' c t other (record { around = around3; inside = inside3 });
    keyed = keyed_replace c s t sound.keyed (side.keyed (hole_shared c) (keyed_hole c s sound.keyed));
    distinct = plug_distinct all_of nothing_of c t (record { first = side.distinct; second = parted.second; apart = λ k p q. parted.apart k (side.numbers_in k p) q });
    distinct_holders = plug_distinct none_of only_of c t (record { first = side.distinct_holders; second = held.second; apart = λ k p q. held.apart k (side.holders_in k p) q });
    gone = λ p. elim (plug_either all_of nothing_of c t id p) as (λ _. ⊥) [ inl q ↦ side.off q | inr q ↦ parted.apart id side.id_in q ];
    place = place_of id other_front.0;
    moved = λ p. place_there id other_front.0 id refl ∙ other_front.2 (λ e. m_gone (in_same (holders (plug c t)) m id (sym e) p));
    stays = λ k d. place_other id other_front.0 k d;
    above = by_replace (place_of id other_front.0) c s t sound.above
        (above_by (place_of id other_front.0) t side.above (λ k p. place_other id other_front.0 k (off_t k (holder_number t k side.above p))))
        (λ k p. elim (side.fronts_of k p) as (λ _. IsIn (place_of id other_front.0 k) (fronts t)) [
          | inl e ↦ in_same (fronts t) (place_of id other_front.0 k) other_front.0 (sym (place_there id other_front.0 k e)) other_front.1
          | inr q ↦ in_same (fronts t) (place_of id other_front.0 k) k (sym (place_other id other_front.0 k (off_t k (front_number t k q)))) q
        ])
        (λ k p. place_other id other_front.0 k (off_c k (front_around c k p)));
    free = λ _ p. m_gone p;
    idle = idle_then;
    same = λ k. less_pairs id k pairs c s t (same k) (λ p. parted.apart id side.id_in p) (side.less k);
  }
