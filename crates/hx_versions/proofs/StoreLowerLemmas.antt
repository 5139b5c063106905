-- What the store stands for after the numbers of all versions of a row were lowered.
use Rattle.std.proofs.Common.{◌≡◌, ◌≢◌, ℕ, ◌+◌, ◌≤◌, List, [], ◌∷◌, map, set, Some, All, refl, sym, ap, subst, ◌∙◌, arith}
use Rattle.std.specs.Option.{option_map_or}
use Rattle.std.specs.Prelude.{slice_get}
use Rattle.std.proofs.lemmas.List.Elements.{All-cons, All-head, All-nil, All-tail}
use Rattle.std.proofs.lemmas.List.Sums.{sum_by-cons}
use Rattle.hx_pool.specs.declared.chain.Chain.{Chain}
use Rattle.hx_versions.specs.declared.pools.Pools.{Pools}
use Rattle.hx_versions.specs.declared.pools.Row.{Row}
use Rattle.hx_versions.specs.declared.stored_version.Owner.{Owner}
use Rattle.hx_versions.specs.declared.stored_version.Owner.TheVariants.{Reference, Retired}
use Rattle.hx_versions.specs.Rows.{ShownVersion, filled_one, lowered, row_at, row_slots, version_slots}
use Rattle.hx_versions.specs.Store.{HasSameCounts, IsRow, IsStore, KeepsVersions, PlacedVersion, lowered_version, seen_rows, shown_version}
use Rattle.hx_versions.proofs.CountingLemmas.{filled_changed, kept_changed, row_filled}
use Rattle.hx_versions.proofs.IndexListLemmas.{get_set_same}
use Rattle.hx_versions.proofs.RowLemmas.{rows_view, waiting_frame}
use Rattle.hx_versions.proofs.StoreChangeLemmas.{retired_other, set_self}
use Rattle.hx_versions.proofs.StoreClauseLemmas.{view_of}
use Rattle.hx_versions.proofs.StoreLemmas.{HasVersions, row_seen_at, store_step}

abbrev IsNotBelow : ℕ → ShownVersion → Type 0
IsNotBelow by version = by ≤ version.number

placed_above : (by : ℕ) (vs : List PlacedVersion) → All (IsNotBelow by) (map shown_version vs) → All (λ (v : PlacedVersion). by ≤ v.number) vs
placed_above by [] all = All-nil (λ (v : PlacedVersion). by ≤ v.number)
placed_above by (v ∷ vs) all =
    All-cons (λ (w : PlacedVersion). by ≤ w.number) v vs (All-head (IsNotBelow by) (shown_version v) (map shown_version vs) all) (placed_above by vs (All-tail (IsNotBelow by) (shown_version v) (map shown_version vs) all))

-- callers see them lowered
shown_lowered : (by : ℕ) (vs : List PlacedVersion) → map shown_version (map (lowered_version by) vs) ≡ map (lowered by) (map shown_version vs)
shown_lowered by [] = refl
shown_lowered by (v ∷ vs) =
    ap (λ xs. lowered by (shown_version v) ∷ xs) (shown_lowered by vs)

-- they have as many slots and entries as before
lowered_slots : (by : ℕ) (row : List ShownVersion) → row_slots (map (lowered by) row) ≡ row_slots row
lowered_slots by [] = refl
lowered_slots by (version ∷ row) =
    sum_by-cons version_slots (lowered by version) (map (lowered by) row)
    ∙ ap (λ k. version_slots version + k) (lowered_slots by row) ∙ sym (sum_by-cons version_slots version row)

lowered_filled : (by : ℕ) (row : List ShownVersion) → row_filled (map (lowered by) row) ≡ row_filled row
lowered_filled by [] = refl
lowered_filled by (version ∷ row) =
    sum_by-cons filled_one (lowered by version) (map (lowered by) row)
    ∙ ap (λ k. filled_one version + k) (lowered_filled by row) ∙ sym (sum_by-cons filled_one version row)

module _ (p : Pools) (rows : List Row) (r : ℕ) (row : Row) (has : HasVersions p rows r row) (waiting by : ℕ) where
  -- no version of the row has a smaller number
  pub row_above : All (λ (version : ShownVersion). by ≤ version.number) (row_at (view_of p rows waiting) r) → All (λ (v : PlacedVersion). by ≤ v.number) has.versions
  row_above all =
      placed_above by has.versions (subst (All (IsNotBelow by)) (row_seen_at p rows r waiting row has) all)

  module _ (q : Pools) (retired : Chain) (filled : ℕ) (h : IsStore p rows retired waiting filled (seen_rows p rows)) (is : slice_get rows r ≡ Some row)
      (stands : IsRow q (Reference r) row (map (lowered_version by) has.versions)) (others : (theirs : Owner) → theirs ≢ Reference r → KeepsVersions theirs p q) (same : HasSameCounts p q) where
    abbrev old : List ShownVersion
    old = map shown_version has.versions

    abbrev new : List ShownVersion
    new = map (lowered by) old

    step : IsStore q rows retired waiting filled (set (seen_rows p rows) r new)
    step =
        let kept = kept_changed (seen_rows p rows) r old new has.seen in
        let full = filled_changed (seen_rows p rows) r old new has.seen in
        let slots = lowered_slots by old in
        let fills = lowered_filled by old in
        subst (λ xs. IsStore q xs retired waiting filled (set (seen_rows p rows) r new)) (set_self rows r row is)
        (store_step p q rows retired retired waiting filled waiting filled (seen_rows p rows) r row row old new h.gone h is has.seen
        (λ theirs differs waits. others theirs differs)
        (map (lowered_version by) has.versions, stands, shown_lowered by has.versions)
        (waiting_frame p q (others Retired (retired_other r)) retired h.gone h.wait)
        (record {
          waits = h.counted.waits;
          live = omega (arith, same.versions, same.entries, same.nodes, h.counted.live, kept, slots);
          fills = omega (arith, h.counted.fills, full, fills);
          spare = omega (arith, same.spare, h.counted.spare);
          versions_fit = omega (arith, same.versions, h.counted.versions_fit);
          entries_fit = omega (arith, same.entries, h.counted.entries_fit);
          nodes_fit = omega (arith, same.nodes, h.counted.nodes_fit);
        }))

    now_rows : seen_rows q rows ≡ set (seen_rows p rows) r new
    now_rows = rows_view q rows (set (seen_rows p rows) r new) step.has_rows

    now_row : row_at (view_of q rows waiting) r ≡ new
    now_row =
        ap (λ xs. option_map_or (λ x. x) (slice_get xs r) []) now_rows
        ∙ ap (λ o. option_map_or (λ x. x) o []) (get_set_same (seen_rows p rows) r old new has.seen)

    pub lowered_store : IsStore q rows retired waiting filled (seen_rows q rows)
    lowered_store = subst (IsStore q rows retired waiting filled) (sym now_rows) step

    pub lowered_row : row_at (view_of q rows waiting) r ≡ map (lowered by) (row_at (view_of p rows waiting) r)
    lowered_row = now_row ∙ ap (map (lowered by)) (sym (row_seen_at p rows r waiting row has))

    pub lowered_others : seen_rows q rows ≡ set (seen_rows p rows) r (row_at (view_of q rows waiting) r)
    lowered_others = now_rows ∙ ap (set (seen_rows p rows) r) (sym now_row)
