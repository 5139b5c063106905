-- What a tree stands for, after a node was put in, and where nothing of its own changed.
use Rattle.std.proofs.Common.{◌≡◌, ◌≢◌, ◌⊎◌, ℕ, Bool, true, false, List, [], ◌∷◌, ◌++◌, length, Option, Some, None, refl, sym, ap, subst, ◌∙◌, inl, inr}
use Rattle.std.proofs.lemmas.Bool.{cases_eq}
use Rattle.std.proofs.lemmas.List.{append-nil}
use Rattle.std.specs.Option.{option_map}
use Rattle.hx_pool.specs.Chain.{IsIn}
use Rattle.hx_pool.proofs.ChainLemmas.{in_left, in_either, in_same, distinct_join}
use Rattle.hx_ebtree.specs.declared.node.Down.{Down}
use Rattle.hx_ebtree.specs.declared.node.Down.TheVariants.{Leaf, Branch}
use Rattle.hx_ebtree.specs.declared.node.Up.{Up}
use Rattle.hx_ebtree.specs.Bits.{code_of, IsPrefix}
use Rattle.hx_ebtree.specs.KeyList.{KeyList, numbers_of, ids_of, IsOff, is_same_key}
use Rattle.hx_ebtree.specs.Shape.{Shape, leaf, pairs_of, numbers, holders, all_of, none_of, nothing_of, only_of, IsKeyed, LeafPart, Leaves, Forks, key_in, HangsAt}
use Rattle.hx_ebtree.specs.ShapeContext.{plug, hole_up, hole_shared, SurroundsAt}
use Rattle.hx_ebtree.specs.Change.{PutsLeaf, Pushes, PutsFork}
use Rattle.hx_ebtree.specs.Tree.{StandsAs}
use Rattle.hx_ebtree.specs.Seat.{IsSame, IsBeside}
use Rattle.hx_ebtree.proofs.ShapeLemmas.{plug_parted, plug_distinct, plug_in, plug_either, hangs_frame, surrounds_frame, numbers_around, plug_close}
use Rattle.hx_ebtree.proofs.KeyedLemmas.{keyed_hole, keyed_replace, numbers_replace, numbers_in_hole, shape_ids}
use Rattle.hx_ebtree.proofs.PairLemmas.{key_cases, numbers_append, numbers_with, numbers_other, listed_same}
use Rattle.hx_ebtree.proofs.WholeLemmas.{holder_number, above_replace}
use Rattle.hx_ebtree.proofs.InsertLemmas.{grown, grown_holds, grown_idle, grown_sound, grown_same}

-- a number of the tree is listed
pub number_listed : (f : Leaves) (g : Forks) (root : Option Down) (s : Shape) (pairs : KeyList) → StandsAs f g root (Some s) pairs → (k : ℕ) → IsIn k (numbers s) → IsIn k (ids_of pairs)
number_listed f g root s pairs stands k p = listed_same (pairs_of s) pairs (λ key. sym (stands.same key)) k (subst (IsIn k) (sym (shape_ids s)) p)

-- a tree goes on standing where its own numbers keep their parts
pub stands_frame : (f f' : Leaves) (g g' : Forks) (root : Option Down) (shape : Option Shape) (pairs : KeyList) → ((k : ℕ) → IsIn k (ids_of pairs) → f' k ≡ f k) → ((k : ℕ) → IsIn k (ids_of pairs) → g' k ≡ g k) → StandsAs f g root shape pairs → StandsAs f' g' root shape pairs
stands_frame f f' g g' root None pairs sf sg stands = record { hangs = stands.hangs; sound = tt; idle = tt; same = stands.same }
stands_frame f f' g g' root (Some s) pairs sf sg stands =
    let listed = number_listed f g root s pairs stands in
    record {
      hangs = (stands.hangs.0, stands.hangs.1, hangs_frame f f' g g' None s stands.hangs.0 (λ k p. sf k (listed k p)) (λ k p. sg k (listed k (holder_number s k stands.sound.above p))) stands.hangs.2);
      sound = stands.sound;
      idle = λ k p off. sg k (listed k p) ∙ stands.idle k p off;
      same = stands.same;
    }

grown_held : (right : Bool) (id : ℕ) (shared key : List Bool) (s : Shape) → IsIn id (holders (grown right id shared key s))
grown_held false id shared key s = inl refl
grown_held true id shared key s = inl refl

grown_holders : (right : Bool) (id : ℕ) (shared key : List Bool) (s : Shape) (k : ℕ) → IsIn k (holders s) → IsIn k (holders (grown right id shared key s))
grown_holders false id shared key s k p = inr p
grown_holders true id shared key s k p = inr (in_left (holders s) [] k p)

grown_numbers : (right : Bool) (id : ℕ) (shared key : List Bool) (s : Shape) (k : ℕ) → IsIn k (numbers (grown right id shared key s)) → (k ≡ id) ⊎ IsIn k (numbers s)
grown_numbers false id shared key s k p = p
grown_numbers true id shared key s k p = elim (in_either (numbers s) (id ∷ []) k p) as (λ _. (k ≡ id) ⊎ IsIn k (numbers s)) [
  | inl q ↦ inr q
  | inr q ↦ elim q as (λ _. (k ≡ id) ⊎ IsIn k (numbers s)) [ inl e ↦ inl e | inr n ↦ absurd n ]
]

module _ (f : Leaves) (g : Forks) (root : Option Down) (f' : Leaves) (g' : Forks) (root' : Option Down) (pairs : KeyList) (key : List Bool) (id : ℕ) (part : LeafPart) (here : f id ≡ Some part) (keyed : part.key ≡ key) (off : IsOff id pairs) where
  seen : key_in f id ≡ Some key
  seen = ap (option_map (λ (p : LeafPart). p.key)) here ∙ ap Some keyed

  -- on a branch of its own
  pub stands_beside : (at : Down) (up : Option Up) (bit : ℕ) (right : Bool) → IsBeside f g root pairs key at up bit right → PutsFork f g root f' g' root' id at up bit right → (shape : Option Shape) × StandsAs f' g' root' shape (pairs ++ (key, id) ∷ [])
  stands_beside at up bit right r change =
      let c = r.context in let s = r.here in let whole = r.hole.stands in
      let put : PutsFork f g root f' g' root' id at up (length r.shared) right = subst (λ n. PutsFork f g root f' g' root' id at up n right) (sym r.long) change in
      let fresh : IsIn id (numbers (plug c s)) → ⊥ = λ p. off (number_listed f g root (plug c s) pairs whole id p) in
      let new = grown right id r.shared key s in (
        Some (plug c new),
        record {
          hangs = plug_close f' g' root' c new (Branch id) (grown_holds f g root f' g' root' c s id at up key r.shared right put r.hole.up_is r.hole.around r.hole.inside whole.sound.above whole.sound.numbers whole.sound.holders fresh seen part here);
          sound = grown_sound c s id key r.shared whole.sound fresh r.under right r.leads r.keyed;
          idle = λ k p away.
              let other : k ≢ id = λ e. away (plug_in none_of only_of c new k (inl (in_same (holders new) k id (sym e) (grown_held right id r.shared key s)))) in
              let was : IsIn k (numbers (plug c s)) = elim (plug_either all_of nothing_of c new k p) as (λ _. IsIn k (numbers (plug c s))) [
                | inl q ↦ elim (grown_numbers right id r.shared key s k q) as (λ _. IsIn k (numbers (plug c s))) [ inl e ↦ absurd (other e) | inr w ↦ plug_in all_of nothing_of c s k (inl w) ]
                | inr q ↦ plug_in all_of nothing_of c s k (inr q)
              ] in
              let unheld : IsIn k (holders (plug c s)) → ⊥ = λ q. elim (plug_either none_of only_of c s k q) as (λ _. ⊥) [
                | inl w ↦ away (plug_in none_of only_of c new k (inl (grown_holders right id r.shared key s k w)))
                | inr w ↦ away (plug_in none_of only_of c new k (inr w))
              ] in
              grown_idle f g root f' g' root' c s id at up key r.shared right put r.hole.up_is r.hole.around r.hole.inside whole.sound.above whole.sound.numbers whole.sound.holders fresh seen k other unheld ∙ whole.idle k was unheld;
          same = λ k. numbers_append k pairs ((key, id) ∷ []) ∙ ap (λ w. w ++ numbers_of k ((key, id) ∷ [])) (whole.same k) ∙ sym (grown_same c s id key r.shared whole.sound fresh r.under right r.leads r.keyed k);
        },
      )

  -- as the only node
  pub stands_alone : StandsAs f g root None pairs → PutsLeaf f g f' g' id None None → root' ≡ Some (Leaf id) → (shape : Option Shape) × StandsAs f' g' root' shape (pairs ++ (key, id) ∷ [])
  stands_alone whole put top =
      let w = put.leaf part here in (
        Some (leaf key id []),
        record {
          hangs = (
            Leaf id,
            top,
            record {
              part = w.0;
              points = refl;
              here = w.1;
              hung = w.3;
              lies = w.4;
              keys = λ k there. elim there as (λ _. key_in f' k ≡ Some key) [ inl e ↦ ap (key_in f') e ∙ ap (option_map (λ (p : LeafPart). p.key)) w.1 ∙ ap Some (w.2 ∙ keyed) | inr n ↦ absurd n ];
            },
          );
          sound = record { keyed = (code_of key, refl); above = tt; numbers = ((λ p. p), tt); holders = tt };
          idle = λ k p away. elim p as (λ _. g' k ≡ None) [ inl e ↦ ap g' e ∙ put.here | inr n ↦ absurd n ];
          same = λ k. numbers_append k pairs ((key, id) ∷ []) ∙ ap (λ w. w ++ numbers_of k ((key, id) ∷ [])) (whole.same k);
        },
      )

  -- after the others of its key
  pub stands_same : (front : ℕ) → IsSame f g root pairs key front → Pushes f g f' g' front id → root' ≡ root → (shape : Option Shape) × StandsAs f' g' root' shape (pairs ++ (key, id) ∷ [])
  stands_same front r push top =
      let c = r.context in let whole = r.hole.stands in let old = leaf key front r.more in let new = leaf key front (r.more ++ id ∷ []) in
      let parted = plug_parted all_of nothing_of c old whole.sound.numbers in
      let held = plug_parted none_of only_of c old whole.sound.holders in
      let fresh : IsIn id (numbers (plug c old)) → ⊥ = λ p. off (number_listed f g root (plug c old) pairs whole id p) in
      let off_leaf : IsIn id (front ∷ r.more) → ⊥ = λ p. fresh (plug_in all_of nothing_of c old id (inl p)) in
      let off_c : IsIn id (numbers_around c) → ⊥ = λ p. fresh (plug_in all_of nothing_of c old id (inr p)) in
      let at = r.hole.inside in
      let w = push.leaf at.part r.more at.here at.lies off_leaf in
      let inside : HangsAt f' g' (hole_up c) new r.at = record {
        part = w.0;
        points = at.points;
        here = w.1;
        hung = w.2 ∙ at.hung;
        lies = w.3;
        keys = λ k there. push.keys k ∙ (elim (in_either (front ∷ r.more) (id ∷ []) k there) as (λ _. key_in f k ≡ Some key) [
          | inl q ↦ at.keys k q
          | inr q ↦ elim q as (λ _. key_in f k ≡ Some key) [ inl e ↦ ap (key_in f) e ∙ seen | inr n ↦ absurd n ]
        ]);
      } in
      let around : SurroundsAt f' g' root' c r.at = subst (λ w. SurroundsAt f' g' w c r.at) (sym top) (surrounds_frame f f' g g' root c r.at
      (λ k p. push.leaves at.part r.more at.here at.lies k (λ q. parted.apart k q p) (λ e. off_c (in_same (numbers_around c) id k e p)))
      (λ k p. push.forks k (λ e. fresh (in_same (numbers (plug c old)) id k e (holder_number (plug c old) k whole.sound.above (plug_in none_of only_of c old k (inr p)))))) r.hole.around) in (
        Some (plug c new),
        record {
          hangs = plug_close f' g' root' c new r.at (record { around = around; inside = inside });
          sound = record {
            keyed = keyed_replace c old new whole.sound.keyed (keyed_hole c old whole.sound.keyed);
            above = above_replace c old new whole.sound.above tt (λ k p. p);
            numbers = plug_distinct all_of nothing_of c new (record {
              first = distinct_join (front ∷ r.more) (id ∷ []) parted.first ((λ p. p), tt) (λ k p q. elim q as (λ _. ⊥) [ inl e ↦ off_leaf (in_same (front ∷ r.more) id k e p) | inr n ↦ n ]);
              second = parted.second;
              apart = λ k p q. elim (in_either (front ∷ r.more) (id ∷ []) k p) as (λ _. ⊥) [ inl a ↦ parted.apart k a q | inr b ↦ elim b as (λ _. ⊥) [ inl e ↦ off_c (in_same (numbers_around c) id k e q) | inr n ↦ n ] ];
            });
            holders = plug_distinct none_of only_of c new (record { first = tt; second = held.second; apart = λ k p q. p });
          };
          idle = λ k p away. elim (cases_eq k id) as (λ _. g' k ≡ None) [
            | inl e ↦ ap g' e ∙ push.here
            | inr other ↦
                let was : IsIn k (numbers (plug c old)) = elim (plug_either all_of nothing_of c new k p) as (λ _. IsIn k (numbers (plug c old))) [
                  | inl q ↦ elim (in_either (front ∷ r.more) (id ∷ []) k q) as (λ _. IsIn k (numbers (plug c old))) [
                    | inl a ↦ plug_in all_of nothing_of c old k (inl a)
                    | inr b ↦ elim b as (λ _. IsIn k (numbers (plug c old))) [ inl e ↦ absurd (other e) | inr n ↦ absurd n ]
                  ]
                  | inr q ↦ plug_in all_of nothing_of c old k (inr q)
                ] in
                let unheld : IsIn k (holders (plug c old)) → ⊥ = λ q. elim (plug_either none_of only_of c old k q) as (λ _. ⊥) [ inl n ↦ n | inr a ↦ away (plug_in none_of only_of c new k (inr a)) ] in
                push.forks k other ∙ whole.idle k was unheld
          ];
          same = λ k. numbers_append k pairs ((key, id) ∷ []) ∙ ap (λ w. w ++ numbers_of k ((key, id) ∷ [])) (whole.same k) ∙ sym (pushed k (key_cases key k) (keyed_hole c old whole.sound.keyed) whole.sound.keyed
              (keyed_replace c old new whole.sound.keyed (keyed_hole c old whole.sound.keyed)));
        },
      )
    where
      pushed : (k : List Bool) → (key ≡ k) ⊎ (is_same_key key k ≡ false) → IsPrefix (hole_shared r.context) (code_of key) → IsKeyed [] (plug r.context (leaf key front r.more)) → IsKeyed [] (plug r.context (leaf key front (r.more ++ id ∷ [])))
          → numbers_of k (pairs_of (plug r.context (leaf key front (r.more ++ id ∷ [])))) ≡ numbers_of k (pairs_of (plug r.context (leaf key front r.more))) ++ numbers_of k ((key, id) ∷ [])
      pushed k (inl e) leads was is = subst (λ w. numbers_of w (pairs_of (plug r.context (leaf key front (r.more ++ id ∷ [])))) ≡ numbers_of w (pairs_of (plug r.context (leaf key front r.more))) ++ numbers_of w ((key, id) ∷ [])) e
          (numbers_in_hole r.context (leaf key front (r.more ++ id ∷ [])) key is leads ∙ numbers_with key (front ∷ (r.more ++ id ∷ []))
          ∙ sym (ap (λ w. w ++ numbers_of key ((key, id) ∷ [])) (numbers_in_hole r.context (leaf key front r.more) key was leads ∙ numbers_with key (front ∷ r.more)) ∙ ap (λ w. (front ∷ r.more) ++ w) (numbers_with key (id ∷ []))))
      pushed k (inr d) leads was is =
          numbers_replace r.context (leaf key front r.more) (leaf key front (r.more ++ id ∷ [])) k (numbers_other k key (front ∷ (r.more ++ id ∷ [])) d ∙ sym (numbers_other k key (front ∷ r.more) d))
          ∙ sym (append-nil (numbers_of k (pairs_of (plug r.context (leaf key front r.more)))))
          ∙ ap (λ w. numbers_of k (pairs_of (plug r.context (leaf key front r.more))) ++ w) (sym (numbers_other k key (id ∷ []) d))
