-- Places in a row: one place apart from the others, and room for an array as places without values. Assumes `Logic`.
use Rattle.std.proofs.Common.{◌≡◌, ℕ, zero, suc, ◌+◌, ◌*◌, ◌^◌, ◌<◌, List, [], ◌∷◌, ◌++◌, refl, ◌∙◌, subst, arith}
use native.Mathlib.Nat.{zero-mul, suc-mul}
use lib.ListN.{length, set, get_or, replicate}
use seplogic.Ra.Ura.{Ura}
use base.Fml.{Fml, Lft, Incl, ftrue, ffalse, fsep, froom}
use base.Logic.{ent, sep, emp, via, id⊢, fst∗, snd∗}
use contract.Monad.{fact, fact_i}
use mir.Syntax.{Body, ty_array}
use prog.Wp.{Wp, Env, Calls, Loops, after_seq}
use mir.Val.{Val, vstruct, vcons, vnil, of_list}
use types.Logic.{Logic, sem}
use types.Kit.{Item, Goal, Post, Step, post, any_q, step, ⋆, ‵, raw, ◌⊛◌, ◌$◌, ◌∵◌, !, qed, by, move, keep, use0, use1, use2, split, join, frame, fsplit, fjoin, fpack, feq_i, done}
use denote.RattleType.{RattleType, RowLaws, Valss}
use denote.Steps.{nothing}
use denote.Shadow.{makes_shadow}
use denote.RawPtr.{Ptr, block_ptr, null_ptr, ptr_val}
use denote.Param.Laws.{Laws}
use denote.Laws.{Is}
use denote.Sharing.{ShrLaws, said}
use denote.SharingLaws.{beside_shr_laws, nothing_shr_laws, said_shr_laws}
use denote.Shares.{Shares-less}
use denote.Struct.Struct.{Struct, within}
use denote.Struct.Declared.{shape as declared_shape}
use denote.Struct.Tuple.{Tuple, tuple_type}
use denote.Struct.Owning.{shape}
use denote.Struct.Lending.{Lends, Lends-both, Lends-nothing, Lends-said, Lends-false}
use Rattle.std.specs.Prelude.{Option, Some, None}
use Rattle.std.specs.Mem.{type_size}
use Rattle.core.proofs.mem.Param.{El, R, el_x, elτ}
use Rattle.core.proofs.ptr.Rows.{times_below, one_below}
use Rattle.std_alloc.proofs.RcSteps.{word}
use Rattle.hx_pool.specs.contracts.memory.Places as places
use Rattle.hx_pool.specs.contracts.memory.Start as start
use Rattle.hx_pool.specs.Memory.{owns_place, owns_row, owns_places, lends_value_at, lends_row, lends_places, are_few_bytes}

abbrev pub mark : Val
mark = vstruct (vcons (vstruct vnil) vnil)

abbrev pub triple : Val → Val → Val → Val
triple u v w = vstruct (vcons u (vcons v (vcons w vnil)))

module _ {M : Type 1} {𝓤 : Ura M} (𝓛 : Logic 𝓤) where
  -- a tuple of three is made of its values
  pub triple_of : (X Y Z : RattleType) (x : X.Denot) (y : Y.Denot) (z : Z.Denot) (u v w : Val)
      → ent 𝓤 (⋆ 𝓛 (‵ (X.own_val x (u ∷ [])) ∷ ‵ (Y.own_val y (v ∷ [])) ∷ ‵ (Z.own_val z (w ∷ [])) ∷ [])) (sem 𝓛 ((Tuple (X ∷ Y ∷ Z ∷ [])).own_val (x, y, z) (triple u v w ∷ [])))
  triple_of X Y Z x y z u v w =
      let all = triple u v w ∷ [] in
      qed 𝓛 (‵ (X.own_val x (u ∷ [])) ∷ ‵ (Y.own_val y (v ∷ [])) ∷ ‵ (Z.own_val z (w ∷ [])) ∷ []) ∵
      nothing ! $ move ! (3 ∷ 0 ∷ []) $ fjoin ! $ move ! (2 ∷ 0 ∷ []) $ fjoin ! $ move ! (1 ∷ 0 ∷ []) $ fjoin ! $ feq_i ! (List Val) all all refl $ fjoin ! $
      fpack ! (Valss (X ∷ Y ∷ Z ∷ [])) (within (declared_shape (tuple_type (X ∷ Y ∷ Z ∷ []))) (x, (y, (z, tt))) all) (u ∷ [], (v ∷ [], (w ∷ [], tt))) $ done !

  open 𝓛 use {H}

  -- what runs after an arm of a `match`
  abbrev pub goes_on : Calls 𝓤 H → Loops 𝓤 H → Env 𝓤 H → Body → Post 𝓤 H → Post 𝓤 H
  goes_on C Λ E body q = any_q (after_seq 𝓤 H (Wp 𝓤 H C Λ E body (post 𝓤 H q)) (post 𝓤 H q))

module _ {M : Type 1} {𝓤 : Ura M} {𝓛 : Logic 𝓤} {K : Type 0} {Γ : List (Item 𝓤)} {G : Goal 𝓤 𝓛.H} where
  -- two facts that an `ensures` asks for
  pub says_two : K → {φ ψ : Type 0} → φ → ψ → Step K 𝓛 ((raw (fact 𝓤 φ) ⊛ raw (fact 𝓤 ψ)) ∷ Γ) G Γ G
  says_two t {φ} {ψ} x y = step (λ s.
      use0 𝓛 (raw (fact 𝓤 ψ)) (fact_i 𝓤 ψ (emp 𝓤) y) $ use0 𝓛 (raw (fact 𝓤 φ)) (fact_i 𝓤 φ (emp 𝓤) x) $ join t $ s)

  pub says_one : K → {φ : Type 0} → φ → Step K 𝓛 (raw (fact 𝓤 φ) ∷ Γ) G Γ G
  says_one t {φ} x = step (λ s. use0 𝓛 (raw (fact 𝓤 φ)) (fact_i 𝓤 φ (emp 𝓤) x) $ s)

-- an index at which a value is found lies within the list
pub found_within : {X : Type 0} (values : List (Option X)) (i : ℕ) (x : X) → get_or values i None ≡ Some x → i < length values
found_within [] i x e = cc
found_within (v ∷ vs) zero x e = omega arith
found_within (v ∷ vs) (suc i) x e = omega (arith, found_within vs i x e)

-- an index below the count of places is few bytes from the first
pub near : (i n s : ℕ) → i < n → n * s < 2 ^ 63 → (s < 2 ^ 64) × (i * s < 2 ^ 64)
near i n s lt few = (omega (arith, one_below n s (2 ^ 63) (omega arith) few), omega (arith, times_below i n s (2 ^ 63) (omega arith) few))

module _ (E : El) where
  abbrev pub Pl : RattleType
  Pl = places.the_row (R E)

  abbrev pub St : RattleType
  St = start.the_row (R E)

  -- the one field of the owner of places, which takes no bytes
  abbrev pub Marked : RattleType
  Marked = Struct (shape (places.the_type (R E)))

  pub mark_told : (vs : List Val) → Is Marked (tt, tt) vs → vs ≡ mark ∷ []
  mark_told vs is = is.1.0 ∙ (λ i. vstruct (of_list (is.1.1.0.1.0 i ++ [])) ∷ [])

  pub mark_made : {M : Type 1} {𝓤 : Ura M} (𝓛 : Logic 𝓤) → ent 𝓤 (emp 𝓤) (sem 𝓛 (Marked.own_val (tt, tt) (mark ∷ [])))
  mark_made 𝓛 = makes_shadow 𝓛 (Marked.own_val (tt, tt) (mark ∷ [])) (λ _. (tt, ((λ _. (tt, tt)), tt))) ((vstruct vnil ∷ [], tt), (refl, ((tt, (refl, tt)), tt)))

  -- what an address is stored as
  pub start_told : (x : St.Denot) (vs : List Val) → Is St x vs → vs ≡ word x.address ∷ []
  start_told x vs is = is.1.0 ∙ (λ i. vstruct (of_list (is.1.1.0 i ++ [])) ∷ [])

  pub start_made : {M : Type 1} {𝓤 : Ura M} (𝓛 : Logic 𝓤) (p : Ptr) → ent 𝓤 (emp 𝓤) (sem 𝓛 (St.own_val (record { address = p }) (word p ∷ [])))
  start_made 𝓛 p = makes_shadow 𝓛 (St.own_val (record { address = p }) (word p ∷ [])) (λ _. (tt, (tt, tt))) ((ptr_val p ∷ [], tt), (refl, (refl, tt)))

module _ (E : El) {M : Type 1} {𝓤 : Ura M} (𝓛 : Logic 𝓤) (b : ℕ) where
  open 𝓛 use {H}

  abbrev s : ℕ
  s = type_size (R E)

  abbrev Place : ℕ → Option (el_x E) → Fml
  Place = owns_place (R E) b

  abbrev Row : ℕ → List (Option (el_x E)) → Fml
  Row = owns_row (R E) b

  -- the places but for the one at the index
  abbrev pub Others : List (Option (el_x E)) → ℕ → ℕ → Fml
  Others [] i o = ftrue
  Others (v ∷ vs) zero o = Row (o + s) vs
  Others (v ∷ vs) (suc i) o = fsep (Place o v) (Others vs i (o + s))

  pub place_out : (vs : List (Option (el_x E))) (i o at : ℕ) → at ≡ i * s + o → i < length vs
      → ent 𝓤 (sem 𝓛 (Row o vs)) (sep 𝓤 (sem 𝓛 (Place at (get_or vs i None))) (sem 𝓛 (Others vs i o)))
  place_out [] i o at e lt = absurd (omega arith)
  place_out (v ∷ vs) zero o at e lt =
      let here : o ≡ at = omega (arith, zero-mul s) in
      subst (λ k. ent 𝓤 (sem 𝓛 (Row o (v ∷ vs))) (sep 𝓤 (sem 𝓛 (Place k v)) (sem 𝓛 (Row (o + s) vs)))) here (id⊢ 𝓤 _)
  place_out (v ∷ vs) (suc i) o at e lt =
      qed 𝓛 (‵ (Row o (v ∷ vs)) ∷ []) ∵ fsplit ! $ move ! (1 ∷ []) $
      use1 𝓛 (‵ (Place at (get_or vs i None)) ⊛ ‵ (Others vs i (o + s))) (place_out vs i (o + s) at (omega (arith, suc-mul i s)) (omega arith)) $ split ! $
      move ! (2 ∷ 1 ∷ []) $ fjoin ! $ move ! (1 ∷ []) $ done !

  pub place_in : (vs : List (Option (el_x E))) (i o at : ℕ) → at ≡ i * s + o → i < length vs → (v : Option (el_x E))
      → ent 𝓤 (sep 𝓤 (sem 𝓛 (Place at v)) (sem 𝓛 (Others vs i o))) (sem 𝓛 (Row o (set vs i v)))
  place_in [] i o at e lt w = absurd (omega arith)
  place_in (v ∷ vs) zero o at e lt w =
      let here : o ≡ at = omega (arith, zero-mul s) in
      subst (λ k. ent 𝓤 (sep 𝓤 (sem 𝓛 (Place k w)) (sem 𝓛 (Row (o + s) vs))) (sem 𝓛 (Row o (w ∷ vs)))) here (id⊢ 𝓤 _)
  place_in (v ∷ vs) (suc i) o at e lt w =
      qed 𝓛 (‵ (Place at w) ∷ ‵ (Others (v ∷ vs) (suc i) o) ∷ []) ∵ move ! (1 ∷ []) $ fsplit ! $ move ! (2 ∷ 1 ∷ []) $
      use2 𝓛 (‵ (Row (o + s) (set vs i w))) (place_in vs i (o + s) at (omega (arith, suc-mul i s)) (omega arith) w) $
      move ! (1 ∷ 0 ∷ []) $ fjoin ! $ done !

  -- room for an array is room in each of its places
  pub row_of_room : (n o : ℕ) → ent 𝓤 (H.room (ty_array (elτ E) n) b o) (sem 𝓛 (Row o (replicate n None)))
  row_of_room zero o = qed 𝓛 (‵ (froom (ty_array (elτ E) 0) b o) ∷ []) ∵ keep ! [] $ done !
  row_of_room (suc n) o =
      qed 𝓛 (‵ (froom (ty_array (elτ E) (suc n)) b o) ∷ []) ∵
      use1 𝓛 (‵ (froom (elτ E) b o) ⊛ ‵ (froom (ty_array (elτ E) n) b (o + s))) (𝓛.laws.room_uncons (elτ E) n b o) $ split ! $
      use1 𝓛 (‵ (Place o None)) (𝓛.laws.room-raw (elτ E) b o) $ frame ! $ by ! (row_of_room n (o + s))

  pub room_of_row : (n o : ℕ) → ent 𝓤 (sem 𝓛 (Row o (replicate n None))) (H.room (ty_array (elτ E) n) b o)
  room_of_row zero o = 𝓛.laws.room_nil (elτ E) b o
  room_of_row (suc n) o =
      qed 𝓛 (‵ (Row o (replicate (suc n) None)) ∷ []) ∵ fsplit ! $ move ! (1 ∷ []) $
      use1 𝓛 (‵ (froom (ty_array (elτ E) n) b (o + s))) (room_of_row n (o + s)) $ move ! (1 ∷ []) $
      use1 𝓛 (‵ (froom (elτ E) b o)) (𝓛.laws.raw-room (elτ E) b o) $ by ! (𝓛.laws.room_cons (elτ E) n b o)

  -- of places that are lent, one is seen
  pub value_seen : (κ : Lft) (vs : List (Option (el_x E))) (i o at : ℕ) → at ≡ i * s + o → i < length vs
      → ent 𝓤 (sem 𝓛 (lends_row (R E) b o vs κ)) (sem 𝓛 (lends_value_at (R E) b at (get_or vs i None) κ))
  value_seen κ [] i o at e lt = absurd (omega arith)
  value_seen κ (v ∷ vs) zero o at e lt =
      let here : o ≡ at = omega (arith, zero-mul s) in
      subst (λ k. ent 𝓤 (sem 𝓛 (lends_row (R E) b o (v ∷ vs) κ)) (sem 𝓛 (lends_value_at (R E) b k v κ))) here
      (fst∗ 𝓤 (sem 𝓛 (lends_value_at (R E) b o v κ)) (sem 𝓛 (lends_row (R E) b (o + s) vs κ)))
  value_seen κ (v ∷ vs) (suc i) o at e lt =
      via 𝓤 (sem 𝓛 (lends_row (R E) b (o + s) vs κ)) (snd∗ 𝓤 (sem 𝓛 (lends_value_at (R E) b o v κ)) (sem 𝓛 (lends_row (R E) b (o + s) vs κ)))
      (value_seen κ vs i (o + s) at (omega (arith, suc-mul i s)) (omega arith))

-- what a `&` to the places has, and that a borrow of them makes it
module _ (X : RattleType) (L : RowLaws X) where
  row_laws : (b : ℕ) (vs : List (Option X.Denot)) (o : ℕ) → ShrLaws (lends_row X b o vs)
  row_laws b [] o = nothing_shr_laws
  row_laws b (None ∷ vs) o = beside_shr_laws _ _ nothing_shr_laws (row_laws b vs (o + type_size X))
  row_laws b (Some x ∷ vs) o = beside_shr_laws _ _ (L x b o) (row_laws b vs (o + type_size X))

  pub places_laws : (p : Ptr) (vs : List (Option X.Denot)) → ShrLaws (lends_places X p vs)
  places_laws null_ptr vs = said_shr_laws ffalse tt
  places_laws (block_ptr b o) vs = beside_shr_laws _ _ (said_shr_laws (are_few_bytes X vs) tt) (row_laws b vs o)

module _ {M : Type 1} {𝓤 : Ura M} (𝓛 : Logic 𝓤) (l : Lft) (X : RattleType) (L : Laws X) (inc : Incl l X.lives) where
  Lends-row : (b : ℕ) (vs : List (Option X.Denot)) (o : ℕ) → Lends 𝓛 (owns_row X b o vs) (lends_row X b o vs) l
  Lends-row b [] o = Lends-nothing 𝓛 ftrue l
  Lends-row b (v ∷ vs) o =
      let rest = Lends-row b vs (o + type_size X) in
      Lends-both 𝓛 (owns_place X b o v) (owns_row X b (o + type_size X) vs) (lends_value_at X b o v) (lends_row X b (o + type_size X) vs) l (one v) rest
    where
      one : (v : Option X.Denot) → Lends 𝓛 (owns_place X b o v) (lends_value_at X b o v) l
      one None = Lends-nothing 𝓛 (owns_place X b o None) l
      one (Some x) = λ κ ts. Shares-less 𝓛 X X.lives l inc (L.shares 𝓛) x κ ts b o

  pub Lends-places : (p : Ptr) (vs : List (Option X.Denot)) → Lends 𝓛 (owns_places X p vs) (lends_places X p vs) l
  Lends-places null_ptr vs = Lends-false 𝓛 (said ffalse) l
  Lends-places (block_ptr b o) vs =
      Lends-both 𝓛 (are_few_bytes X vs) (owns_row X b o vs) (said (are_few_bytes X vs)) (lends_row X b o vs) l (Lends-said 𝓛 (are_few_bytes X vs) tt l) (Lends-row b vs o)
