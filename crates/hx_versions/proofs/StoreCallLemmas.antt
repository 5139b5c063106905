-- What the store stands for after its calls.
use Rattle.std.proofs.Common.{◌≡◌, ◌≢◌, ℕ, zero, suc, ◌+◌, ◌-◌, ◌*◌, ◌^◌, ◌<◌, ◌≤◌, List, [], ◌∷◌, ◌++◌, length, map, min, Option, Some, None, All, refl, sym, ap, subst, ◌∙◌, inl, inr, arith}
use Rattle.std.specs.List.{sum_by}
use Rattle.std.specs.Prelude.{slice_get, ⊤}
use Rattle.std.proofs.lemmas.List.{length-map, map-append}
use Rattle.std.proofs.lemmas.List.Elements.{All-nil}
use Rattle.std.proofs.lemmas.List.Sums.{sum_by_push}
use Rattle.hx_pool.specs.declared.chain.Chain.{Chain}
use Rattle.hx_pool.specs.declared.links.Links.{Links}
use Rattle.hx_pool.specs.Pool.{live_count}
use Rattle.hx_pool.specs.Chain.{LiesAt}
use Rattle.hx_versions.specs.declared.pools.Pools.{Pools}
use Rattle.hx_versions.specs.declared.pools.Row.{Row}
use Rattle.hx_versions.specs.declared.stored_version.Owner.{Owner}
use Rattle.hx_versions.specs.declared.stored_version.Owner.TheVariants.{Reference, Retired}
use Rattle.hx_versions.specs.Rows.{ShownVersion, StoreView, filled_one, kept_slots, row_slots, store_slots}
use Rattle.hx_versions.specs.Store.{AreRetired, CountsSlots, GivesSlots, HasContent, HasRow, HasVersion, IsRow, IsStore, KeepsVersions, PlacedVersion, RetiredVersion, filled_count, seen_row, seen_rows, waiting_slots}
use Rattle.hx_versions.proofs.RowLemmas.{has_row_frame, rows_view}
use Rattle.hx_versions.proofs.CountingLemmas.{row_filled}

another : (r : ℕ) → Reference r ≢ Retired
another r e = cc

-- ---- slots that wait are given back

module _ (p q : Pools) (rows : List Row) (retired retired' : Chain) (waiting filled given : ℕ) (h : IsStore p rows retired waiting filled (seen_rows p rows)) (others : (owner : Owner) → owner ≢ Retired → KeepsVersions owner p q) where
  -- callers see the same rows
  pub tidied_rows : seen_rows q rows ≡ seen_rows p rows
  tidied_rows = rows_view q rows (seen_rows p rows) (λ r.
      has_row_frame p q r (slice_get rows r) (slice_get (seen_rows p rows) r) (others (Reference r) (another r)) (h.has_rows r))

  -- there are as many slots fewer that wait
  pub tidied_store : (waiting' : ℕ) (left : List RetiredVersion) → p.versions.spare ≤ q.versions.spare → GivesSlots given p q → AreRetired q retired' left → waiting_slots left + given ≡ waiting_slots h.gone → waiting' + given ≡ waiting → IsStore q rows retired' waiting' filled (seen_rows q rows)
  tidied_store waiting' left spare gives wait counted fewer =
      subst (IsStore q rows retired' waiting' filled) (sym tidied_rows)
      (record {
        has_rows = λ r. has_row_frame p q r (slice_get rows r) (slice_get (seen_rows p rows) r) (others (Reference r) (another r)) (h.has_rows r);
        gone = left;
        wait = wait;
        counted = record {
          waits = omega (arith, counted, h.counted.waits, fewer);
          live = omega (arith, gives.total, h.counted.live, fewer);
          fills = h.counted.fills;
          spare = omega (arith, h.counted.spare, spare);
          versions_fit = omega (arith, h.counted.versions_fit, gives.versions);
          entries_fit = omega (arith, h.counted.entries_fit, gives.entries);
          nodes_fit = omega (arith, h.counted.nodes_fit, gives.nodes);
        };
      })

-- ---- a row more

rows_pushed : (p : Pools) (from : ℕ) (rows : List Row) (shown : List (List ShownVersion)) (row : Row) → ((r : ℕ) → HasRow p (from + r) (slice_get rows r) (slice_get shown r)) → HasRow p (from + length rows) (Some row) (Some []) → (r : ℕ) → HasRow p (from + r) (slice_get (rows ++ row ∷ []) r) (slice_get (shown ++ [] ∷ []) r)
rows_pushed p from [] [] row has here zero = here
rows_pushed p from [] [] row has here (suc r) = tt
rows_pushed p from [] (x ∷ shown) row has here r = absurd (has 0)
rows_pushed p from (x ∷ rows) [] row has here r = absurd (has 0)
rows_pushed p from (x ∷ rows) (y ∷ shown) row has here zero = has 0
rows_pushed p from (x ∷ rows) (y ∷ shown) row has here (suc r) =
    let more : (k : ℕ) → suc from + k ≡ from + suc k = λ k. omega arith in
    let rest = rows_pushed p (suc from) rows shown row
    (λ k. subst (λ i. HasRow p i (slice_get rows k) (slice_get shown k)) (sym (more k)) (has (suc k)))
    (subst (λ i. HasRow p i (Some row) (Some [])) (sym (more (length rows))) here) r in
    subst (λ i. HasRow p i (slice_get (rows ++ row ∷ []) r) (slice_get (shown ++ [] ∷ []) r)) (more r) rest

module _ (p : Pools) (rows : List Row) (row : Row) (retired : Chain) (waiting filled : ℕ) (h : IsStore p rows retired waiting filled (seen_rows p rows)) (empty : row.count ≡ 0) (lies : (f : ℕ → Option Links) → LiesAt f row.versions []) where
  no_versions : (r : ℕ) → HasRow p r (Some row) (Some [])
  no_versions r = (
    [],
    record {
      chain = lies _;
      count = empty;
      found = All-nil (HasVersion p.versions (Reference r));
      contents = All-nil (HasContent p);
    },
    refl,
  )

  has_pushed : (r : ℕ) → HasRow p r (slice_get (rows ++ row ∷ []) r) (slice_get (seen_rows p rows ++ [] ∷ []) r)
  has_pushed r =
      let plus : (k : ℕ) → 0 + k ≡ k = λ k. omega arith in
      subst (λ i. HasRow p i (slice_get (rows ++ row ∷ []) r) (slice_get (seen_rows p rows ++ [] ∷ []) r)) (plus r)
      (rows_pushed p 0 rows (seen_rows p rows) row (λ k. subst (λ i. HasRow p i (slice_get rows k) (slice_get (seen_rows p rows) k)) (sym (plus k)) (h.has_rows k)) (no_versions (0 + length rows)) r)

  -- callers see one row more
  pub pushed_rows : seen_rows p (rows ++ row ∷ []) ≡ seen_rows p rows ++ [] ∷ []
  pushed_rows = rows_view p (rows ++ row ∷ []) (seen_rows p rows ++ [] ∷ []) has_pushed

  pub pushed_store : IsStore p (rows ++ row ∷ []) retired waiting filled (seen_rows p (rows ++ row ∷ []))
  pushed_store =
      subst (IsStore p (rows ++ row ∷ []) retired waiting filled) (sym pushed_rows)
      (record {
        has_rows = has_pushed;
        gone = h.gone;
        wait = h.wait;
        counted = record {
          waits = h.counted.waits;
          live = omega (arith, h.counted.live, sum_by_push row_slots (seen_rows p rows) []);
          fills = omega (arith, h.counted.fills, sum_by_push row_filled (seen_rows p rows) []);
          spare = h.counted.spare;
          versions_fit = h.counted.versions_fit;
          entries_fit = h.counted.entries_fit;
          nodes_fit = h.counted.nodes_fit;
        };
      })

-- ---- no rows

pub new_store : (p : Pools) (retired : Chain) → ((f : ℕ → Option Links) → LiesAt f retired []) → live_count p.versions ≡ 0 → live_count p.entries ≡ 0 → live_count p.nodes ≡ 0 → IsStore p [] retired 0 0 (seen_rows p [])
new_store p retired lies versions entries nodes = record {
  has_rows = λ r. tt;
  gone = [];
  wait = record { lies = lies _; found = All-nil _; contents = All-nil _ };
  counted = record {
    waits = refl;
    live = omega (arith, versions, entries, nodes);
    fills = refl;
    spare = omega arith;
    versions_fit = omega (arith, versions);
    entries_fit = omega (arith, entries);
    nodes_fit = omega (arith, nodes);
  };
}
