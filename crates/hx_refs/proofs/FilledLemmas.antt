-- The references with the versions in their rows.
use Rattle.std.proofs.Common.{◌≡◌, ℕ, zero, suc, ◌+◌, ◌<◌, List, [], ◌∷◌, ◌++◌, length, All, refl, ap, sym, subst, ◌∙◌, arith, inl, inr}
use Rattle.std.specs.Prelude.{Option, None, Some, map, slice_get, slice_index_or, slice_set}
use Rattle.std.specs.Option.{option_map_or}
use Rattle.std.proofs.lemmas.Bool.{cases_eq, cases_lt}
use Rattle.std.proofs.lemmas.List.{length-append, length-set}
use Rattle.std.proofs.lemmas.List.Elements.{All-map}
use Rattle.std.proofs.lemmas.Option.{get_or_from_slice_get, same_Some, slice_get_read}
use Rattle.hx_refs.specs.Kept.{all_filled, filled, shown_references, with_kept, AreFilled, StoredReference, IsFilled, Kept, KeptState}
use Rattle.hx_refs.specs.References.{Reference}
use Rattle.hx_versions.specs.Rows.{row_at, store_slots, ShownVersion, StoreView}
use Rattle.hx_refs.proofs.KeptLemmas.{found_within}
use Rattle.hx_refs.proofs.ListLemmas.{get_last, get_more, get_past, get_set_other, get_set_same}

-- ---- the lists

-- the row at a position
abbrev pub row_in : List (List ShownVersion) → ℕ → List ShownVersion
row_in rows r = option_map_or (λ row. row) (slice_get rows r) []

pub filled_length : (kept : List StoredReference) (rows : List (List ShownVersion)) → length (all_filled kept rows) ≡ length kept
filled_length [] rows = refl
filled_length (k ∷ kept) [] = ap suc (filled_length kept [])
filled_length (k ∷ kept) (row ∷ rows) = ap suc (filled_length kept rows)

pub filled_get : (kept : List StoredReference) (rows : List (List ShownVersion)) (r : ℕ) (k : StoredReference) → slice_get kept r ≡ Some k
    → slice_get (all_filled kept rows) r ≡ Some (filled k (row_in rows r))
filled_get [] rows r k is = absurd (cc)
filled_get (x ∷ kept) [] zero k is = ap (λ (y : StoredReference). Some (filled y [])) (same_Some x k is)
filled_get (x ∷ kept) [] (suc r) k is = filled_get kept [] r k is
filled_get (x ∷ kept) (row ∷ rows) zero k is = ap (λ (y : StoredReference). Some (filled y row)) (same_Some x k is)
filled_get (x ∷ kept) (row ∷ rows) (suc r) k is = filled_get kept rows r k is

-- a reference and its row are others
pub filled_set : (kept : List StoredReference) (rows : List (List ShownVersion)) (r : ℕ) (k new : StoredReference) (row : List ShownVersion)
    → slice_get kept r ≡ Some k → r < length rows
    → all_filled (slice_set kept r new) (slice_set rows r row) ≡ slice_set (all_filled kept rows) r (filled new row)
filled_set [] rows r k new row is within = absurd (cc)
filled_set (x ∷ kept) [] r k new row is within = absurd (omega (arith, within))
filled_set (x ∷ kept) (y ∷ rows) zero k new row is within = refl
filled_set (x ∷ kept) (y ∷ rows) (suc r) k new row is within =
    ap (λ (all : List Kept). filled x y ∷ all) (filled_set kept rows r k new row is (omega (arith, within)))

-- the item at a position is set to itself
pub set_itself : {A : Type 0} → (xs : List A) (r : ℕ) (x : A) → slice_get xs r ≡ Some x → slice_set xs r x ≡ xs
set_itself [] r x is = absurd (cc)
set_itself (y ∷ xs) zero x is = ap (λ z. z ∷ xs) (sym (same_Some y x is))
set_itself (y ∷ xs) (suc r) x is = ap (λ zs. y ∷ zs) (set_itself xs r x is)

-- one more
pub filled_more : (kept : List StoredReference) (rows : List (List ShownVersion)) (new : StoredReference) → length rows ≡ length kept
    → all_filled (kept ++ new ∷ []) (rows ++ [] ∷ []) ≡ all_filled kept rows ++ filled new [] ∷ []
filled_more [] [] new same = refl
filled_more [] (row ∷ rows) new same = absurd (omega (arith, same))
filled_more (k ∷ kept) [] new same = absurd (omega (arith, same))
filled_more (k ∷ kept) (row ∷ rows) new same =
    ap (λ (all : List Kept). filled k row ∷ all) (filled_more kept rows new (omega (arith, same)))

-- what is seen of references and the store
abbrev pub state_of : List StoredReference → StoreView → KeptState
state_of kept store = record { kept = all_filled kept store.rows; slots = store_slots store }

-- a reference that is set to itself
pub kept_same : (kept : List StoredReference) (r : ℕ) (k new : StoredReference) → slice_get kept r ≡ Some k → new ≡ k → slice_set kept r new ≡ kept
kept_same kept r k new found same =
    subst (λ (x : StoredReference). slice_set kept r x ≡ kept) (sym same) (set_itself kept r k found)

-- no items
pub no_items : {A B : Type 0} → (f : A → B) (xs : List A) → length xs ≡ 0 → map f xs ≡ []
no_items f [] none = refl
no_items f (x ∷ xs) none = absurd (omega (arith, none))

-- ---- reads

-- the reference at a position, as it is kept
pub kept_at : (kept : List StoredReference) (rows : List (List ShownVersion)) (r : ℕ) (k : StoredReference)
    → r < length (all_filled kept rows) → k ≡ slice_index_or kept r k → slice_get kept r ≡ Some k
kept_at kept rows r k within is =
    slice_get_read kept (length kept) r k refl (rw (filled_length kept rows) at within) is

-- what is seen of it has the versions of its row
pub seen_at : (kept : List StoredReference) (store : StoreView) (r : ℕ) (k : StoredReference) (seen : Kept) → slice_get kept r ≡ Some k
    → slice_get (all_filled kept store.rows) r ≡ Some seen → seen ≡ filled k (row_at store r)
seen_at kept store r k seen found is =
    same_Some seen (filled k (row_at store r)) (sym is ∙ filled_get kept store.rows r k found)

-- the same, where it is read by its index
pub seen_from : (kept : List StoredReference) (store : StoreView) (r : ℕ) (k : StoredReference) (seen : Kept) → r < length (all_filled kept store.rows)
    → k ≡ slice_index_or kept r k → slice_get (all_filled kept store.rows) r ≡ Some seen
    → seen ≡ filled k (row_at store r)
seen_from kept store r k seen within read is = seen_at kept store r k seen (kept_at kept store.rows r k within read) is

pub row_within : (kept : List StoredReference) (store : StoreView) (r : ℕ) → r < length (all_filled kept store.rows)
    → AreFilled kept store → r < length store.rows
row_within kept store r within all = omega (arith, within, all.count, filled_length kept store.rows)

-- ---- changes of one reference

-- a row is set to itself
pub row_itself : (rows : List (List ShownVersion)) (r : ℕ) → r < length rows → rows ≡ slice_set rows r (row_in rows r)
row_itself [] r within = absurd (omega (arith, within))
row_itself (row ∷ rows) zero within = refl
row_itself (row ∷ rows) (suc r) within =
    ap (λ (rest : List (List ShownVersion)). row ∷ rest) (row_itself rows r (omega (arith, within)))

module _ (kept : List StoredReference) (old new : StoreView) (r : ℕ) (k : StoredReference) (found : slice_get kept r ≡ Some k)
    (within : r < length old.rows) (all : AreFilled kept old) (others : new.rows ≡ slice_set old.rows r (row_at new r)) where
  -- the reference and its row are changed
  pub both_changed : (next : StoredReference) (change : Reference → Reference)
      → filled next (row_at new r) ≡ record (filled k (row_at old r)) { shown = change (filled k (row_at old r)).shown }
      → all_filled (slice_set kept r next) new.rows ≡ with_kept r change (all_filled kept old.rows)
  both_changed next change is =
      ap (all_filled (slice_set kept r next)) others
      ∙ filled_set kept old.rows r k next (row_at new r) found within
      ∙ ap (slice_set (all_filled kept old.rows) r) is
      ∙ sym (with_kept_is (all_filled kept old.rows) r (filled k (row_at old r)) change (filled_get kept old.rows r k found))
    where
      with_kept_is : (xs : List Kept) (r : ℕ) (x : Kept) (change : Reference → Reference) → slice_get xs r ≡ Some x
          → with_kept r change xs ≡ slice_set xs r (record x { shown = change x.shown })
      with_kept_is xs r x change is = rw is refl

  -- the row alone
  pub row_changed : (change : Reference → Reference)
      → filled k (row_at new r) ≡ record (filled k (row_at old r)) { shown = change (filled k (row_at old r)).shown }
      → all_filled kept new.rows ≡ with_kept r change (all_filled kept old.rows)
  row_changed change is =
      ap (λ (xs : List StoredReference). all_filled xs new.rows) (sym (set_itself kept r k found)) ∙ both_changed k change is

  -- what holds of references and rows stays so
  pub both_filled : (next : StoredReference) → IsFilled next (row_at new r) → AreFilled (slice_set kept r next) new
  both_filled next here = record {
    count = ap length others ∙ length-set old.rows r (row_at new r) ∙ all.count ∙ sym (length-set kept r next);
    each = λ q x is. elim (cases_eq r q) [
      | inl same ↦
          let is_next : next ≡ x = same_Some next x (sym (get_set_same kept r k next found) ∙ rw (← same) at is) in
          subst (λ (y : StoredReference). IsFilled y (row_at new q)) is_next (subst (λ (p : ℕ). IsFilled next (row_at new p)) same here)
      | inr apart ↦
          let row : row_at new q ≡ row_at old q =
          ap (λ rows. row_in rows q) others ∙ ap (λ (o : Option (List ShownVersion)). option_map_or (λ row. row) o []) (get_set_other old.rows r q (row_at new r) apart) in
          rw row (all.each q x (rw (get_set_other kept r q next apart) at is))
    ];
  }

  pub row_filled : IsFilled k (row_at new r) → AreFilled kept new
  row_filled here = subst (λ (xs : List StoredReference). AreFilled xs new) (set_itself kept r k found) (both_filled k here)

-- a change of the reference alone
module _ (kept : List StoredReference) (store : StoreView) (r : ℕ) (k : StoredReference) (found : slice_get kept r ≡ Some k)
    (within : r < length store.rows) (all : AreFilled kept store) where
  pub same_rows : store.rows ≡ slice_set store.rows r (row_at store r)
  same_rows = row_itself store.rows r within

  pub kept_changed : (next : StoredReference) (change : Reference → Reference)
      → filled next (row_at store r) ≡ record (filled k (row_at store r)) { shown = change (filled k (row_at store r)).shown }
      → all_filled (slice_set kept r next) store.rows ≡ with_kept r change (all_filled kept store.rows)
  kept_changed next change is = both_changed kept store store r k found within all same_rows next change is

  pub kept_filled : (next : StoredReference) → IsFilled next (row_at store r) → AreFilled (slice_set kept r next) store
  kept_filled next here = both_filled kept store store r k found within all same_rows next here

  -- it has other uses
  pub kept_set : (next : StoredReference) → all_filled (slice_set kept r next) store.rows ≡ slice_set (all_filled kept store.rows) r (filled next (row_at store r))
  kept_set next =
      ap (all_filled (slice_set kept r next)) same_rows ∙ filled_set kept store.rows r k next (row_at store r) found within

-- one more reference
pub filled_with_new : (kept : List StoredReference) (old new : StoreView) (k : StoredReference) → AreFilled kept old
    → new.rows ≡ old.rows ++ [] ∷ [] → IsFilled k [] → AreFilled (kept ++ k ∷ []) new
filled_with_new kept old new k all more here = record {
  count = ap length more ∙ length-append old.rows ([] ∷ []) ∙ ap (λ n. n + 1) all.count ∙ sym (length-append kept (k ∷ []));
  each = λ q x is. elim (cases_lt q (length kept)) [
    | inl within ↦
        let row : row_at new q ≡ row_at old q =
        ap (λ rows. row_in rows q) more ∙ ap (λ (o : Option (List ShownVersion)). option_map_or (λ row. row) o []) (get_more old.rows [] q (omega (arith, within, all.count))) in
        rw row (all.each q x (rw (get_more kept k q within) at is))
    | inr past ↦ elim (cases_lt (length kept) q) [
      | inl beyond ↦ absurd (nothing x (rw (get_past kept k q beyond) at is))
      | inr least ↦
          let at_end : q ≡ length kept = omega arith in
          let is_k : k ≡ x = same_Some k x (sym (get_last kept k) ∙ rw at_end at is) in
          let row : row_at new q ≡ [] =
          ap (λ rows. row_in rows q) more
          ∙ ap (λ (p : ℕ). row_in (old.rows ++ [] ∷ []) p) (at_end ∙ sym all.count)
          ∙ ap (λ (o : Option (List ShownVersion)). option_map_or (λ row. row) o []) (get_last old.rows []) in
          rw row (subst (λ (y : StoredReference). IsFilled y []) is_k here)
    ]
  ];
}
  where
    nothing : (x : StoredReference) → None ≡ Some x → ⊥
    nothing x is = cc

-- ---- what holds of each reference

pub all_seen : (P : Reference → Type 0) (kept : List StoredReference) (store : StoreView) → AreFilled kept store
    → ((k : StoredReference) (row : List ShownVersion) → IsFilled k row → P (filled k row).shown)
    → All P (shown_references (all_filled kept store.rows))
all_seen P kept store all holds = All-map P (λ (k : Kept). k.shown) (all_filled kept store.rows) here
  where
    here : All (λ (k : Kept). P k.shown) (all_filled kept store.rows)
    here r d within =
        let found = found_within kept r (rw (filled_length kept store.rows) at within) in
        let seen = filled_get kept store.rows r found.0 found.1 in
        rw (get_or_from_slice_get (all_filled kept store.rows) r (filled found.0 (row_at store r)) d seen)
        (holds found.0 (row_at store r) (all.each r found.0 found.1))
