-- What the store stands for after the first version of a row was dropped, and what callers see.
use Rattle.std.proofs.Common.{◌≡◌, ℕ, suc, ◌+◌, ◌*◌, ◌^◌, ◌<◌, ◌≤◌, true, false, ltb, List, [], ◌∷◌, ◌++◌, length, map, set, Some, None, All, refl, sym, ap, subst, ◌∙◌, arith, le-ltb, lt-ltb, ltb-true}
use Rattle.std.specs.Option.{option_map, option_map_or}
use Rattle.std.specs.Prelude.{slice_get}
use Rattle.std.proofs.lemmas.List.{length-map}
use Rattle.std.proofs.lemmas.List.Elements.{All-cons, All-head, All-nil, All-weaker}
use Rattle.std.proofs.lemmas.List.Sums.{get_or-le-sum_by, sum_by-cons}
use Rattle.std.proofs.lemmas.Option.{get_or_from_slice_get, slice_get-map, slice_get_within}
use Rattle.hx_sample.specs.Find.{Entry}
use Rattle.hx_pool.specs.declared.chain.Chain.{Chain}
use Rattle.hx_versions.specs.declared.pools.Pools.{Pools}
use Rattle.hx_versions.specs.declared.pools.Row.{Row}
use Rattle.hx_versions.specs.declared.stored_version.Owner.TheVariants.{Reference}
use Rattle.hx_versions.specs.Rows.{BeginsFrom, ShownVersion, filled_by, kept_slots, row_at, row_slots, version_slots}
use Rattle.hx_versions.specs.Store.{DropsFirst, HasFewSlots, IsRow, IsStore, PlacedVersion, RetiredVersion, as_retired, seen_row, seen_rows, shown_version}
use Rattle.hx_versions.proofs.CountingLemmas.{counts_retired}
use Rattle.hx_versions.proofs.IndexListLemmas.{get_set_same}
use Rattle.hx_versions.proofs.PlaceLemmas.{item_within, waiting_as}
use Rattle.hx_versions.proofs.RowLemmas.{row_view, rows_view}
use Rattle.hx_versions.proofs.StoreClauseLemmas.{filled_within, view_of}
use Rattle.hx_versions.proofs.StoreLemmas.{HasVersions, row_seen_at, store_step}

-- ---- the row at a position

pub rows_within : (p : Pools) (rows : List Row) (r : ℕ) → r < length (seen_rows p rows) → r < length rows
rows_within p rows r within = subst (λ k. r < k) (length-map rows (seen_row p)) within

pub row_within : (p : Pools) (rows : List Row) (r : ℕ) → r < length (seen_rows p rows) → (row : Row) × (slice_get rows r ≡ Some row)
row_within p rows r within = item_within rows r (rows_within p rows r within)

-- ---- the slots of a version can be counted

each_within : (vs : List PlacedVersion) (most : ℕ) → row_slots (map shown_version vs) ≤ most → All (λ (v : PlacedVersion). version_slots (shown_version v) ≤ most) vs
each_within [] most few = All-nil (λ (v : PlacedVersion). version_slots (shown_version v) ≤ most)
each_within (v ∷ vs) most few =
    let whole = sum_by-cons version_slots (shown_version v) (map shown_version vs) in
    All-cons (λ (x : PlacedVersion). version_slots (shown_version x) ≤ most) v vs (omega (arith, few, whole)) (each_within vs most (omega (arith, few, whole)))

module _ (p : Pools) (rows : List Row) (retired : Chain) (waiting filled : ℕ) (h : IsStore p rows retired waiting filled (seen_rows p rows)) where
  -- a pool has at most 2^32 slots, and there are three
  pub in_use_few : kept_slots (seen_rows p rows) + waiting ≤ 3 * 2 ^ 32
  in_use_few = omega (arith, h.counted.live, h.counted.versions_fit, h.counted.entries_fit, h.counted.nodes_fit)

  pub waiting_few : waiting ≤ 3 * 2 ^ 32
  waiting_few = omega (arith, in_use_few)

  pub seen_at : (r : ℕ) (row : Row) (vs : List PlacedVersion) → slice_get rows r ≡ Some row → IsRow p (Reference r) row vs → slice_get (seen_rows p rows) r ≡ Some (map shown_version vs)
  seen_at r row vs is stands =
      slice_get-map (seen_row p) rows r ∙ ap (option_map (seen_row p)) is ∙ ap Some (row_view p (Reference r) row vs stands)

  pub slots_few : (r : ℕ) (vs : List PlacedVersion) → slice_get (seen_rows p rows) r ≡ Some (map shown_version vs) → All HasFewSlots vs
  slots_few r vs seen =
      let shown = seen_rows p rows in
      let read = get_or_from_slice_get shown r (map shown_version vs) [] seen in
      let within = get_or-le-sum_by row_slots shown r [] (slice_get_within shown r (map shown_version vs) seen) in
      let few : row_slots (map shown_version vs) ≤ 3 * 2 ^ 32 = omega (arith, within, ap row_slots read, in_use_few) in
      All-weaker (λ (v : PlacedVersion). version_slots (shown_version v) ≤ 3 * 2 ^ 32) HasFewSlots (λ v most. omega (arith, most)) vs (each_within vs (3 * 2 ^ 32) few)

-- ---- nothing is dropped

pub same_store : (p q : Pools) (rows rows' : List Row) (retired retired' : Chain) (waiting filled : ℕ) → q ≡ p → rows' ≡ rows → retired' ≡ retired → IsStore p rows retired waiting filled (seen_rows p rows) → IsStore q rows' retired' waiting filled (seen_rows q rows')
same_store p q rows rows' retired retired' waiting filled pools_are rows_are retired_is h =
    subst (λ x. IsStore x rows' retired' waiting filled (seen_rows x rows')) (sym pools_are)
    (subst (λ xs. IsStore p xs retired' waiting filled (seen_rows p xs)) (sym rows_are)
    (subst (λ x. IsStore p rows x waiting filled (seen_rows p rows)) (sym retired_is) h))

pub same_seen : (p q : Pools) (rows rows' : List Row) → q ≡ p → rows' ≡ rows → seen_rows q rows' ≡ seen_rows p rows
same_seen p q rows rows' pools_are rows_are =
    ap (λ x. seen_rows x rows') pools_are ∙ ap (seen_rows p) rows_are

none_below : (number : ℕ) (old new : Pools) (rows rows' : List Row) (r : ℕ) (retired : Chain) (vs : List PlacedVersion) (gone : List RetiredVersion) → DropsFirst number None old new rows rows' r retired vs gone → BeginsFrom number (map shown_version vs)
none_below number old new rows rows' r retired [] gone d = tt
none_below number old new rows rows' r retired (v ∷ vs) gone d = d

pub begins_from : (p q : Pools) (rows rows' : List Row) (retired : Chain) (r number waiting : ℕ) (row : Row) (has : HasVersions p rows r row) (gone : List RetiredVersion) → DropsFirst number None p q rows rows' r retired has.versions gone → BeginsFrom number (row_at (view_of p rows waiting) r)
begins_from p q rows rows' retired r number waiting row has gone d =
    subst (BeginsFrom number) (sym (row_seen_at p rows r waiting row has))
    (none_below number p q rows rows' r retired has.versions gone d)

-- ---- how many versions have entries

pub slot_alone : (ways : ℕ) → 1 + 0 * (1 + ways) ≡ 1
slot_alone ways = omega arith

less_by : (filled' filled slots ways : ℕ) (entries : List Entry) → slots ≡ 1 + length entries * (1 + ways) → (ltb 1 slots ≡ true → filled' + 1 ≡ filled) → (ltb 1 slots ≡ false → filled' ≡ filled) → filled' + filled_by entries ≡ filled
less_by filled' filled slots ways [] many less same =
    let one : slots ≡ 1 = many ∙ slot_alone ways in
    omega (arith, same (le-ltb 1 slots (omega (arith, one))))
less_by filled' filled slots ways (e ∷ entries) many less same =
    let more : 1 < slots = omega (arith, many) in less (lt-ltb 1 slots more)

some_by : (filled slots ways : ℕ) (entries : List Entry) → slots ≡ 1 + length entries * (1 + ways) → 1 < slots → filled_by entries ≤ filled → 0 < filled
some_by filled slots ways [] many more within = let one : slots ≡ 1 = many ∙ slot_alone ways in absurd (omega (arith, one, more))
some_by filled slots ways (e ∷ entries) many more within = within

-- ---- the first version is dropped

module _ (p q : Pools) (rows rows' : List Row) (retired retired' : Chain) (waiting filled slots r number : ℕ) (row : Row) (h : IsStore p rows retired waiting filled (seen_rows p rows)) (row_is : slice_get rows r ≡ Some row) (has : HasVersions p rows r row) (d : DropsFirst number (Some slots) p q rows rows' r retired' has.versions h.gone) where
  abbrev first : ShownVersion
  first = shown_version d.1

  abbrev rest : List ShownVersion
  rest = map shown_version d.2

  was : slice_get (seen_rows p rows) r ≡ Some (first ∷ rest)
  was = has.seen ∙ ap (λ xs. Some (map shown_version xs)) d.3

  -- there was one version with entries more
  pub dropped_some : ltb 1 slots ≡ true → 0 < filled
  dropped_some more =
      some_by filled slots (length first.ways) first.entries d.5 (ltb-true 1 slots more)
      (omega (arith, filled_within (seen_rows p rows) r [] first rest was, h.counted.fills))

  pub dropped_few : slots < 2 ^ 40
  dropped_few =
      let few = slots_few p rows retired waiting filled h r has.versions has.seen in
      subst (λ k. k < 2 ^ 40) (sym d.5) (All-head HasFewSlots d.1 d.2 (subst (All HasFewSlots) d.3 few))

  module _ (filled' : ℕ) (less : ltb 1 slots ≡ true → filled' + 1 ≡ filled) (same : ltb 1 slots ≡ false → filled' ≡ filled) where
    stands : IsStore q rows' retired' (waiting + slots) filled' (set (seen_rows p rows) r rest)
    stands =
        subst (λ xs. IsStore q xs retired' (waiting + slots) filled' (set (seen_rows p rows) r rest)) (sym d.6)
        (store_step p q rows retired retired' waiting filled (waiting + slots) filled' (seen_rows p rows) r row d.0 (first ∷ rest) rest (h.gone ++ as_retired d.1 ∷ []) h row_is was d.9 (d.2, d.7, refl) d.8
        (counts_retired p q waiting filled (waiting + slots) filled' (seen_rows p rows) h.gone r [] first rest was h.counted (as_retired d.1) (waiting_as d.1) d.10.versions d.10.entries d.10.nodes d.10.spare (ap (λ k. waiting + k) d.5) (less_by filled' filled slots (length first.ways) first.entries d.5 less same)))

    now_rows : seen_rows q rows' ≡ set (seen_rows p rows) r rest
    now_rows = rows_view q rows' (set (seen_rows p rows) r rest) stands.has_rows

    pub dropped_store : IsStore q rows' retired' (waiting + slots) filled' (seen_rows q rows')
    dropped_store = subst (IsStore q rows' retired' (waiting + slots) filled') (sym now_rows) stands

    now_row : row_at (view_of q rows' (waiting + slots)) r ≡ rest
    now_row =
        ap (λ xs. option_map_or (λ x. x) (slice_get xs r) []) now_rows
        ∙ ap (λ o. option_map_or (λ x. x) o []) (get_set_same (seen_rows p rows) r (first ∷ rest) rest was)

    old_row : row_at (view_of p rows waiting) r ≡ first ∷ rest
    old_row = ap (λ o. option_map_or (λ x. x) o []) was

    pub dropped_first : (version : ShownVersion) × (row_at (view_of p rows waiting) r ≡ version ∷ row_at (view_of q rows' (waiting + slots)) r) × (version.number < number)
    dropped_first = (first, old_row ∙ ap (λ xs. first ∷ xs) (sym now_row), d.4)

    pub dropped_others : seen_rows q rows' ≡ set (seen_rows p rows) r (row_at (view_of q rows' (waiting + slots)) r)
    dropped_others = now_rows ∙ ap (set (seen_rows p rows) r) (sym now_row)

    pub dropped_used : kept_slots (seen_rows q rows') + (waiting + slots) ≡ kept_slots (seen_rows p rows) + waiting
    dropped_used =
        omega (arith, dropped_store.counted.live, h.counted.live, d.10.versions, d.10.entries, d.10.nodes)

    -- ten steps pay for it
    pub dropped_cost : (steps steps' : ℕ) → steps' ≤ steps + 9 → steps' + 10 * length (row_at (view_of q rows' (waiting + slots)) r) ≤ steps + 10 * length (row_at (view_of p rows waiting) r) + 1
    dropped_cost steps steps' most =
        let one : length (row_at (view_of p rows waiting) r) ≡ suc (length (row_at (view_of q rows' (waiting + slots)) r)) = ap length (old_row ∙ ap (λ xs. first ∷ xs) (sym now_row)) in
        omega (arith, one, most)
