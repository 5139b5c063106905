-- What the store stands for after the entries of one version changed.
use Rattle.std.proofs.Common.{◌≡◌, ◌≢◌, ℕ, zero, suc, ◌+◌, ◌*◌, ◌^◌, ◌<◌, ◌≤◌, Bool, List, [], ◌∷◌, ◌++◌, length, map, set, Option, Some, None, All, refl, sym, ap, subst, ◌∙◌, inl, inr, arith}
use Rattle.std.specs.Option.{option_map_or}
use Rattle.std.specs.Prelude.{slice_get, Result, Ok, Err, OnOk, OnErr, true, false}
use Rattle.std.proofs.lemmas.List.{length-map}
use Rattle.hx_text.specs.declared.kinds.By.{By}
use Rattle.hx_pool.specs.declared.chain.Chain.{Chain}
use Rattle.hx_pool.specs.Pool.{live_count}
use Rattle.hx_versions.specs.declared.pools.Pools.{Pools}
use Rattle.hx_versions.specs.declared.pools.Row.{Row}
use Rattle.hx_versions.specs.declared.stored_version.Owner.{Owner}
use Rattle.hx_versions.specs.declared.stored_version.Owner.TheVariants.{Reference, Retired}
use Rattle.hx_versions.specs.Contents.{PlacedEntry, entries_of, ways_of, with_chosen_values}
use Rattle.hx_versions.specs.Versions.{Version}
use Rattle.hx_versions.specs.Rows.{AreNumbered, Changes, ChangesVersion, ShownVersion, filled_by, filled_one, row_at, version_in_row, version_slots}
use Rattle.hx_versions.specs.Store.{AreRetired, ChangesVersionAt, HasRow, IsRow, IsStore, PlacedVersion, RetiredVersion, is_emptied, seen_rows, shown_version}
use Rattle.hx_versions.proofs.IndexListLemmas.{get_set_same}
use Rattle.hx_sample.specs.Find.{Entry}
use Rattle.hx_versions.proofs.PartLemmas.{all_about, all_after, all_here, all_left}
use Rattle.hx_versions.proofs.RowChangeLemmas.{changed_here}
use Rattle.hx_versions.proofs.RowLemmas.{rows_view, waiting_frame}
use Rattle.hx_versions.proofs.StoreLemmas.{store_step}
use Rattle.hx_versions.proofs.CountingLemmas.{counts_changed}
use Rattle.hx_versions.proofs.VersionReadLemmas.{seen_about}

pub set_self : {X : Type 0} (xs : List X) (i : ℕ) (x : X) → slice_get xs i ≡ Some x → set xs i x ≡ xs
set_self [] i x is = refl
set_self (y ∷ xs) zero x is = let same : y ≡ x = cc in ap (λ z. z ∷ xs) (sym same)
set_self (y ∷ xs) (suc i) x is = ap (λ zs. y ∷ zs) (set_self xs i x is)

pub retired_other : (r : ℕ) → Retired ≢ Reference r
retired_other r e = cc

module _ (p q : Pools) (rows : List Row) (retired : Chain) (waiting filled filled' r : ℕ) (row : Row) (before : List PlacedVersion) (v : PlacedVersion) (after : List PlacedVersion) (serial : ℕ) (placed : List PlacedEntry)
    (h : IsStore p rows retired waiting filled (seen_rows p rows)) (row_is : slice_get rows r ≡ Some row)
    (seen : slice_get (seen_rows p rows) r ≡ Some (map shown_version (before ++ v ∷ after)))
    (changes : ChangesVersionAt p q (Reference r) row before v after serial placed) where
  abbrev v' : PlacedVersion
  v' = record v { serial = serial; content = changes.content; placed = placed }

  abbrev pub new_row : List ShownVersion
  new_row = map shown_version before ++ shown_version v' ∷ map shown_version after

  split : map shown_version (before ++ v ∷ after) ≡ map shown_version before ++ shown_version v ∷ map shown_version after
  split = seen_about (before ++ v ∷ after) before v after refl

  pub changed_store : live_count q.versions ≡ live_count p.versions
      → filled' + filled_one (shown_version v) ≡ filled + filled_one (shown_version v')
      → filled' ≤ q.versions.spare → live_count q.versions + filled' ≤ 2 ^ 32 → live_count q.entries ≤ 2 ^ 32 → live_count q.nodes ≤ 2 ^ 32
      → IsStore q rows retired waiting filled' (set (seen_rows p rows) r new_row)
  changed_store versions fills spare few_versions few_entries few_nodes =
      let here : slice_get (seen_rows p rows) r ≡ Some (map shown_version before ++ shown_version v ∷ map shown_version after) = seen ∙ ap Some split in
      let same_ways = length-map v.placed (λ (x : PlacedEntry). x.entry) in
      let many = length-map placed (λ (x : PlacedEntry). x.entry) in
      let slots_before : version_slots (shown_version v) ≡ 1 + length v.placed * (1 + length (ways_of v.content.indexes.items)) = ap (λ k. 1 + k * (1 + length (ways_of v.content.indexes.items))) same_ways in
      let slots_now : version_slots (shown_version v') ≡ 1 + length placed * (1 + length (ways_of v.content.indexes.items)) =
      ap (λ k. 1 + k * (1 + length (ways_of changes.content.indexes.items))) many ∙ ap (λ ws. 1 + length placed * (1 + length ws)) changes.ways in
      let live : live_count q.entries + live_count q.nodes + version_slots (shown_version v) ≡ live_count p.entries + live_count p.nodes + version_slots (shown_version v') = omega (arith, changes.live, slots_before, slots_now) in
      subst (λ xs. IsStore q xs retired waiting filled' (set (seen_rows p rows) r new_row)) (set_self rows r row row_is)
      (store_step p q rows retired retired waiting filled waiting filled' (seen_rows p rows) r row row (map shown_version (before ++ v ∷ after)) new_row h.gone h row_is seen
      (λ theirs differs waits. changes.others theirs differs)
      (before ++ v' ∷ after, changes.row_is, seen_about (before ++ v' ∷ after) before v' after refl)
      (waiting_frame p q (changes.others Retired (retired_other r)) retired h.gone h.wait)
      (counts_changed p q waiting filled waiting filled' (seen_rows p rows) h.gone r (map shown_version before) (shown_version v) (map shown_version after) here h.counted (shown_version v') refl versions live fills spare few_versions few_entries few_nodes))

  -- what callers see of it
  pub changed_rows : IsStore q rows retired waiting filled' (set (seen_rows p rows) r new_row) → seen_rows q rows ≡ set (seen_rows p rows) r new_row
  changed_rows stands = rows_view q rows (set (seen_rows p rows) r new_row) stands.has_rows

  pub changed_row_at : (w : ℕ) → seen_rows q rows ≡ set (seen_rows p rows) r new_row → row_at (record { rows = seen_rows q rows; waiting = w }) r ≡ new_row
  changed_row_at w same =
      ap (λ xs. option_map_or (λ x. x) (slice_get xs r) []) same
      ∙ ap (λ o. option_map_or (λ x. x) o []) (get_set_same (seen_rows p rows) r (map shown_version (before ++ v ∷ after)) new_row seen)

  -- the version of the number changes, and the others stay
  pub changed_version : (number : ℕ) (change : Version → Version) → v.number ≡ number → version_in_row (shown_version v') ≡ change (version_in_row (shown_version v)) → Changes number change (map shown_version (before ++ v ∷ after)) new_row
  changed_version number change same shown_is first last all low high =
      subst (λ xs. ChangesVersion first last number change xs new_row) (sym split)
      (changed_here first last number (map shown_version before) (shown_version v) (shown_version v') (map shown_version after) change (subst (AreNumbered first last) split all) same same shown_is)

-- ---- what holds of each version of the row

-- of the changed one where it held before, and so of all
pub all_changed : {X : Type 0} (P : X → Type 0) (xs : List X) (y z : X) (ys : List X) → (P y → P z) → All P (xs ++ y ∷ ys) → All P (xs ++ z ∷ ys)
all_changed P xs y z ys keeps all =
    all_about P xs z ys (all_left P xs (y ∷ ys) all) (keeps (all_here P xs y ys all)) (all_after P xs y ys all)

-- entries of other values are as many
pub filled_values : (test : Entry → Bool) (value : List ℕ) (placed : List PlacedEntry) → filled_by (entries_of (with_chosen_values test value placed)) ≡ filled_by (entries_of placed)
filled_values test value [] = refl
filled_values test value (p ∷ placed) = refl

-- where entries were removed, those with entries are one less or as many
pub filled_left : (filled' filled : ℕ) (placed left : List PlacedEntry) (emptied : Bool) → emptied ≡ is_emptied placed left → length left ≤ length placed → (emptied ≡ true → filled' + 1 ≡ filled) → (emptied ≡ false → filled' ≡ filled) → filled' + filled_by (entries_of placed) ≡ filled + filled_by (entries_of left)
filled_left filled' filled [] [] emptied is few less same = ap (λ k. k + 0) (same is)
filled_left filled' filled [] (q ∷ left) emptied is few less same = absurd (omega (arith, few))
filled_left filled' filled (p ∷ placed) [] emptied is few less same = omega (arith, less is)
filled_left filled' filled (p ∷ placed) (q ∷ left) emptied is few less same = ap (λ k. k + 1) (same is)

-- a call that answers changes it, or leaves it
pub by_answer : {T E : Type 0} {P Q R : Type 0} (r : Result T E) → (P → R) → (Q → R) → OnOk r P → OnErr r Q → R
by_answer (Ok x) ok err p q = ok p
by_answer (Err e) ok err p q = err q
