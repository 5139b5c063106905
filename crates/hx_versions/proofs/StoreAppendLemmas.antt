-- What the store stands for after entries were appended to a version, which may be new.
use Rattle.std.proofs.Common.{◌≡◌, ◌≢◌, ◌⊎◌, ℕ, ◌+◌, ◌*◌, ◌^◌, ◌<◌, ◌≤◌, Bool, true, false, List, [], ◌∷◌, ◌++◌, length, map, set, Some, All, refl, sym, ap, subst, ◌∙◌, inl, inr, arith, length-append}
use Rattle.std.specs.Option.{option_map_or}
use Rattle.std.specs.Prelude.{slice_get}
use Rattle.std.proofs.lemmas.List.{length-map}
use Rattle.hx_text.specs.declared.kinds.By.{By}
use Rattle.hx_pool.specs.declared.chain.Chain.{Chain}
use Rattle.hx_pool.specs.Pool.{live_count}
use Rattle.hx_index.specs.Index.{NodePool}
use Rattle.hx_sample.specs.Find.{Entry}
use Rattle.hx_versions.specs.declared.pools.Pools.{Pools}
use Rattle.hx_versions.specs.declared.pools.Row.{Row}
use Rattle.hx_versions.specs.declared.stored_version.Owner.{Owner}
use Rattle.hx_versions.specs.declared.stored_version.Owner.TheVariants.{Reference, Retired}
use Rattle.hx_versions.specs.Contents.{EntryPool, PlacedEntry, entries_of, ways_of}
use Rattle.hx_versions.specs.Versions.{Version}
use Rattle.hx_versions.specs.Rows.{AreBelow, AreCounted, AreNumbered, AreSearchedBy, Changes, ChangesVersion, IsCounted, IsSearchedBy, ShownVersion, filled_by, filled_one, row_at, row_slots, version_in_row, version_numbered, version_slots, with_last_entries}
use Rattle.hx_versions.specs.Store.{AreAllBelow, BeginAbove, HasAppended, HasRoomFor, HasSameValues, HasVersionFor, IsNewIn, IsStore, KeepsVersions, PlacedVersion, WasIn, is_emptied, seen_row, seen_rows, shown_version}
use Rattle.hx_versions.proofs.ContentLemmas.{keeps_same}
use Rattle.hx_versions.proofs.CountingLemmas.{filled_changed, kept_changed, row_filled}
use Rattle.hx_versions.proofs.IndexListLemmas.{get_set_same, get_within}
use Rattle.hx_versions.proofs.PartLemmas.{all_about, all_after, all_left, all_right, sum_about, sum_beside}
use Rattle.hx_versions.proofs.RowChangeLemmas.{BeginsAbove, changed_here, inserted_here, version_absent, version_here}
use Rattle.hx_versions.proofs.RowLemmas.{has_row_frame, keeps_versions_on, rows_view, waiting_frame}
use Rattle.hx_versions.proofs.StoreChangeLemmas.{set_self}
use Rattle.hx_versions.proofs.StoreClauseLemmas.{view_of}
use Rattle.hx_versions.proofs.StoreLemmas.{HasVersions, row_seen_at, store_step, versions_of}
use Rattle.hx_versions.proofs.VersionReadLemmas.{above_seen, below_seen, seen_about, seen_beside}

retired_other : (r : ℕ) → Retired ≢ Reference r
retired_other r e = cc

-- ---- memory is taken

pub same_keeps : (owner : Owner) (p q : Pools) → HasSameValues p q → KeepsVersions owner p q
same_keeps owner p q same = record {
  versions = λ slot stored is own. same.versions slot ∙ is;
  contents = λ slot stored is own. keeps_same slot p.entries q.entries p.nodes q.nodes same.entries same.nodes;
}

module _ (p q : Pools) (rows : List Row) (retired : Chain) (waiting filled : ℕ) (h : IsStore p rows retired waiting filled (seen_rows p rows)) (same : HasSameValues p q) where
  -- callers see the same rows
  pub reserved_rows : seen_rows q rows ≡ seen_rows p rows
  reserved_rows = rows_view q rows (seen_rows p rows) (λ r.
      has_row_frame p q r (slice_get rows r) (slice_get (seen_rows p rows) r) (same_keeps (Reference r) p q same) (h.has_rows r))

  pub reserved_store : IsStore q rows retired waiting filled (seen_rows q rows)
  reserved_store =
      subst (IsStore q rows retired waiting filled) (sym reserved_rows)
      (record {
        has_rows = λ r. has_row_frame p q r (slice_get rows r) (slice_get (seen_rows p rows) r) (same_keeps (Reference r) p q same) (h.has_rows r);
        gone = h.gone;
        wait = waiting_frame p q (same_keeps Retired p q same) retired h.gone h.wait;
        counted = record {
          waits = h.counted.waits;
          live = omega (arith, same.live.versions, same.live.entries, same.live.nodes, h.counted.live);
          fills = h.counted.fills;
          spare = omega (arith, h.counted.spare, same.spare);
          versions_fit = omega (arith, same.live.versions, h.counted.versions_fit);
          entries_fit = omega (arith, same.live.entries, h.counted.entries_fit);
          nodes_fit = omega (arith, same.live.nodes, h.counted.nodes_fit);
        };
      })

-- where nothing else is changed the store stands, and callers see the same
module _ (p q : Pools) (rows rows' : List Row) (pools_same : q ≡ p) (rows_same : rows' ≡ rows) where
  pub left_store : (retired : Chain) (waiting filled : ℕ) → IsStore p rows retired waiting filled (seen_rows p rows) → IsStore q rows' retired waiting filled (seen_rows q rows')
  left_store retired waiting filled h =
      subst (λ x. IsStore x rows' retired waiting filled (seen_rows x rows')) (sym pools_same)
      (subst (λ xs. IsStore p xs retired waiting filled (seen_rows p xs)) (sym rows_same) h)

  pub left_rows : (shown : List (List ShownVersion)) → seen_rows p rows ≡ shown → seen_rows q rows' ≡ shown
  left_rows shown same = ap (λ x. seen_rows x rows') pools_same ∙ ap (seen_rows p) rows_same ∙ same

pub left_others : (shown shown' : List (List ShownVersion)) (r waiting : ℕ) → r < length shown → shown' ≡ shown → shown' ≡ set shown r (row_at (record { rows = shown'; waiting = waiting }) r)
left_others shown shown' r waiting within same =
    let there = get_within shown r within in
    let row_same : row_at (record { rows = shown'; waiting = waiting }) r ≡ there.0 =
    ap (λ (xs : List (List ShownVersion)). option_map_or (λ x. x) (slice_get xs r) []) same ∙ ap (λ o. option_map_or (λ x. x) o []) there.1 in
    same ∙ sym (set_self shown r there.0 there.1) ∙ ap (set shown r) (sym row_same)

-- the row at a position, as it is found then
pub record RowBefore (p0 p : Pools) (rows : List Row) (r waiting : ℕ) : Type 0 where
  pub row : Row
  pub is : slice_get rows r ≡ Some row
  pub has : HasVersions p rows r row
  pub seen : row_at (view_of p0 rows waiting) r ≡ map shown_version has.versions

pub row_before : (p0 p : Pools) (rows : List Row) (retired : Chain) (waiting filled r : ℕ) → IsStore p0 rows retired waiting filled (seen_rows p0 rows) → HasSameValues p0 p → r < length (seen_rows p0 rows) → RowBefore p0 p rows r waiting
row_before p0 p rows retired waiting filled r h same within =
    let there = get_within rows r (subst (λ k. r < k) (length-map rows (seen_row p0)) within) in
    let has = versions_of p rows retired waiting filled r there.0 (reserved_store p0 p rows retired waiting filled h same) there.1 in
    record {
      row = there.0;
      is = there.1;
      has = has;
      seen =
          ap (λ (vs : List (List ShownVersion)). option_map_or (λ x. x) (slice_get vs r) []) (sym (reserved_rows p0 p rows retired waiting filled h same))
          ∙ row_seen_at p rows r waiting there.0 has;
    }

-- what a call of `append` ensures that answers
pub record AppendsTo (p : Pools) (rows : List Row) (s : Pools) (rows' : List Row) (retired : Chain) (waiting filled' r number serial : ℕ) (ways : List (By × Bool)) (added : List Entry) : Type 0 where
  pub stands : IsStore s rows' retired waiting filled' (seen_rows s rows')
  pub changes : Changes number (with_last_entries added serial) (row_at (view_of p rows waiting) r) (row_at (view_of s rows' waiting) r)
  pub searched : AreSearchedBy ways (row_at (view_of p rows waiting) r) → AreSearchedBy ways (row_at (view_of s rows' waiting) r)
  pub counted : (first last : ℕ) → AreNumbered first last (row_at (view_of p rows waiting) r) → AreCounted (row_at (view_of p rows waiting) r) → 0 < serial
      → length (version_numbered number (row_at (view_of p rows waiting) r)).entries + length added ≤ serial → AreCounted (row_at (view_of s rows' waiting) r)
  pub others : seen_rows s rows' ≡ set (seen_rows p rows) r (row_at (view_of s rows' waiting) r)

-- ---- how many versions have entries

-- where entries were added, those with entries are one more or as many
filled_grown : (filled' filled : ℕ) (placed now : List PlacedEntry) (grown : Bool) → grown ≡ is_emptied now placed → length placed ≤ length now → (grown ≡ true → filled' ≡ filled + 1) → (grown ≡ false → filled' ≡ filled) → filled' + filled_by (entries_of placed) ≡ filled + filled_by (entries_of now)
filled_grown filled' filled [] [] grown is few more same = ap (λ k. k + 0) (same is)
filled_grown filled' filled [] (q ∷ now) grown is few more same = omega (arith, more is)
filled_grown filled' filled (p ∷ placed) [] grown is few more same = absurd (omega (arith, few))
filled_grown filled' filled (p ∷ placed) (q ∷ now) grown is few more same = ap (λ k. k + 1) (same is)

one_more : (filled' filled : ℕ) (grown : Bool) → (grown ≡ true → filled' ≡ filled + 1) → (grown ≡ false → filled' ≡ filled) → filled' ≤ filled + 1
one_more filled' filled true more same = omega (arith, more refl)
one_more filled' filled false more same = omega (arith, same refl)

slots_by_placed : (v : PlacedVersion) → version_slots (shown_version v) ≡ 1 + length v.placed * (1 + length (ways_of v.content.indexes.items))
slots_by_placed v =
    ap (λ k. 1 + k * (1 + length (ways_of v.content.indexes.items))) (length-map v.placed (λ (x : PlacedEntry). x.entry))

one_slot : (v : PlacedVersion) → v.placed ≡ [] → version_slots (shown_version v) ≡ 1
one_slot v none =
    let empty : length v.placed * (1 + length (ways_of v.content.indexes.items)) ≡ 0 = ap (λ (ps : List PlacedEntry). length ps * (1 + length (ways_of v.content.indexes.items))) none ∙ none_of (1 + length (ways_of v.content.indexes.items)) in
    omega (arith, slots_by_placed v, empty)
  where
    none_of : (k : ℕ) → 0 * k ≡ 0
    none_of k = omega arith

-- ---- the version to which entries are appended

module _ (p q : Pools) (rows : List Row) (r : ℕ) (row row' : Row) (slot number : ℕ) (ways : List (By × Bool)) (has : HasVersions p rows r row) (f : HasVersionFor slot number ways p q (Reference r) row' has.versions) where
  abbrev Stands : Type 0
  Stands = WasIn has.versions f.before f.version f.after ⊎ IsNewIn has.versions f.before f.version f.after

  abbrev old : List ShownVersion
  old = map shown_version has.versions

  abbrev xs : List ShownVersion
  xs = map shown_version f.before

  abbrev ys : List ShownVersion
  ys = map shown_version f.after

  was_seen : (w : WasIn has.versions f.before f.version f.after) → old ≡ xs ++ shown_version w.was ∷ ys
  was_seen w = seen_about has.versions f.before w.was f.after w.whole

  new_seen : IsNewIn has.versions f.before f.version f.after → old ≡ xs ++ ys
  new_seen n = seen_beside has.versions f.before f.after n.whole

  below_here : AreBelow number xs
  below_here = below_seen number f.before (subst (λ k. AreAllBelow k f.before) f.number_is f.below)

  above_here : IsNewIn has.versions f.before f.version f.after → BeginsAbove number ys
  above_here n = above_seen number f.after (subst (λ k. BeginAbove k f.after) f.number_is n.above)

  -- its entries are those that the version of the number had
  pub entries_were : Stands → (first last : ℕ) → AreNumbered first last old → (version_numbered number old).entries ≡ entries_of f.version.placed
  entries_were (inl w) first last all =
      ap (λ (vs : List ShownVersion). (version_numbered number vs).entries) (was_seen w)
      ∙ ap (λ (v : Version). v.entries) (version_here number xs (shown_version w.was) ys below_here (w.number ∙ f.number_is))
      ∙ ap entries_of w.placed
  entries_were (inr n) first last all =
      ap (λ (vs : List ShownVersion). (version_numbered number vs).entries) (new_seen n)
      ∙ ap (λ (v : Version). v.entries) (version_absent number first last xs ys (subst (AreNumbered first last) (new_seen n) all) below_here (above_here n))
      ∙ ap entries_of (sym n.placed)

  pub few_placed : (count first last : ℕ) → AreNumbered first last old → length (version_numbered number old).entries + count < 2 ^ 32 → length f.version.placed + count < 2 ^ 32
  few_placed count first last numbered few =
      omega (arith, few, ap length (entries_were f.was first last numbered), length-map f.version.placed (λ (x : PlacedEntry). x.entry))

  pub entries_spare : (count : ℕ) → count ≤ p.entries.spare → count ≤ q.entries.spare
  entries_spare count spare = subst (λ (e : EntryPool). count ≤ e.spare) (sym f.entries) spare

  pub nodes_spare : (count uses : ℕ) → uses ≡ length ways → count * uses ≤ p.nodes.spare → count * length (ways_of f.version.content.indexes.items) ≤ q.nodes.spare
  nodes_spare count uses uses_is spare =
      let many : uses ≡ length (ways_of f.version.content.indexes.items) = uses_is ∙ sym (ap length f.ways_are) in
      subst (λ k. count * k ≤ q.nodes.spare) many (subst (λ (n : NodePool). count * uses ≤ n.spare) (sym f.nodes) spare)

  slots_were : Stands → live_count q.versions + row_slots old ≡ live_count p.versions + (row_slots xs + version_slots (shown_version f.version) + row_slots ys)
  slots_were (inl w) =
      omega (arith, ap row_slots (was_seen w), sum_about version_slots xs (shown_version w.was) ys, w.slots, f.versions, ap length w.whole, length-append f.before (w.was ∷ f.after), length-append f.before (f.version ∷ f.after))
  slots_were (inr n) =
      omega (arith, ap row_slots (new_seen n), sum_beside version_slots xs ys, one_slot f.version n.placed, f.versions, ap length n.whole, length-append f.before f.after, length-append f.before (f.version ∷ f.after))

  filled_were : Stands → row_filled old ≡ row_filled xs + filled_one (shown_version f.version) + row_filled ys
  filled_were (inl w) =
      omega (arith, ap row_filled (was_seen w), sum_about filled_one xs (shown_version w.was) ys, ap (λ (ps : List PlacedEntry). filled_by (entries_of ps)) w.placed)
  filled_were (inr n) =
      omega (arith, ap row_filled (new_seen n), sum_beside filled_one xs ys, none_filled f.version.placed n.placed)
    where
      none_filled : (ps : List PlacedEntry) → ps ≡ [] → filled_by (entries_of ps) ≡ 0
      none_filled ps none = ap (λ (x : List PlacedEntry). filled_by (entries_of x)) none

  -- at most one version is new
  few_versions : Stands → live_count q.versions ≤ live_count p.versions + 1
  few_versions (inl w) =
      omega (arith, f.versions, ap length w.whole, length-append f.before (w.was ∷ f.after), length-append f.before (f.version ∷ f.after))
  few_versions (inr n) =
      omega (arith, f.versions, ap length n.whole, length-append f.before f.after, length-append f.before (f.version ∷ f.after))

  module _ (s : Pools) (grown : Bool) (serial : ℕ) (added : List Entry) (a : HasAppended grown q s (Reference r) row' f.before f.version f.after serial added) where
    abbrev now : PlacedVersion
    now = record f.version { serial = serial; content = a.changes.content; placed = a.placed }

    -- what callers see of the row
    abbrev pub appended_row : List ShownVersion
    appended_row = xs ++ shown_version now ∷ ys

    with_entries : List Entry → Version
    with_entries entries = record { serial = serial; entries = entries }

    -- the version has the entries as its last ones
    pub appended_changes : Stands → Changes number (with_last_entries added serial) old appended_row
    unfolding with_entries
    appended_changes (inl w) first last all low high =
        let shown : version_in_row (shown_version now) ≡ with_last_entries added serial (version_in_row (shown_version w.was)) = ap with_entries (a.entries_are ∙ ap (λ (ps : List PlacedEntry). entries_of ps ++ added) (sym w.placed)) in
        subst (λ vs. ChangesVersion first last number (with_last_entries added serial) vs appended_row) (sym (was_seen w))
        (changed_here first last number xs (shown_version w.was) (shown_version now) ys (with_last_entries added serial) (subst (AreNumbered first last) (was_seen w) all) (w.number ∙ f.number_is) f.number_is shown)
    appended_changes (inr n) first last all low high =
        let shown : version_in_row (shown_version now) ≡ with_entries added = ap with_entries (a.entries_are ∙ ap (λ (ps : List PlacedEntry). entries_of ps ++ added) n.placed) in
        subst (λ vs. ChangesVersion first last number (with_last_entries added serial) vs appended_row) (sym (new_seen n))
        (inserted_here first last number xs (shown_version now) ys (with_last_entries added serial) (subst (AreNumbered first last) (new_seen n) all) low high below_here (above_here n) f.number_is shown)

    -- what holds of the others and of it holds of all
    all_appended : (P : ShownVersion → Type 0) → Stands → All P old → P (shown_version now) → All P appended_row
    all_appended P (inl w) all here =
        let split = subst (All P) (was_seen w) all in
        all_about P xs (shown_version now) ys (all_left P xs (shown_version w.was ∷ ys) split) here (all_after P xs (shown_version w.was) ys split)
    all_appended P (inr n) all here =
        let split = subst (All P) (new_seen n) all in
        all_about P xs (shown_version now) ys (all_left P xs ys split) here (all_right P xs ys split)

    pub appended_searched : AreSearchedBy ways old → AreSearchedBy ways appended_row
    appended_searched all = all_appended (IsSearchedBy ways) f.was all (inl (a.changes.ways ∙ f.ways_are))

    pub appended_counted : (first last : ℕ) → AreNumbered first last old → AreCounted old → 0 < serial → length (version_numbered number old).entries + length added ≤ serial → AreCounted appended_row
    appended_counted first last numbered all some most =
        let many : length (entries_of a.placed) ≤ serial = omega (arith, most, ap length (entries_were f.was first last numbered), ap length a.entries_are, length-append (entries_of f.version.placed) added) in
        all_appended IsCounted f.was all (some, many)

    -- ---- the store

    keeps : (theirs : Owner) → theirs ≢ Reference r → KeepsVersions theirs p s
    keeps theirs differs = keeps_versions_on theirs p q s (f.others theirs differs) (a.changes.others theirs differs)

    more_placed : length f.version.placed ≤ length a.placed
    more_placed =
        let entry = λ (x : PlacedEntry). x.entry in
        omega (arith, ap length a.entries_are, length-append (entries_of f.version.placed) added, length-map f.version.placed entry, length-map a.placed entry)

    slots_now : version_slots (shown_version now) ≡ 1 + length a.placed * (1 + length (ways_of f.version.content.indexes.items))
    slots_now =
        slots_by_placed now ∙ ap (λ (ws : List (By × Bool)). 1 + length a.placed * (1 + length ws)) a.changes.ways

    module _ (rows' : List Row) (rows_are : rows' ≡ set rows r row') (retired : Chain) (waiting filled filled' : ℕ) (h : IsStore p rows retired waiting filled (seen_rows p rows)) (is : slice_get rows r ≡ Some row) where
      -- it stands for the rows, of which the one has the version with its new entries
      appended_store : (count uses : ℕ) → count ≡ length added → uses ≡ length ways → HasRoomFor count (count * uses) (filled + 2) p → (grown ≡ true → filled' ≡ filled + 1) → (grown ≡ false → filled' ≡ filled)
          → IsStore s rows' retired waiting filled' (set (seen_rows p rows) r appended_row)
      appended_store count uses count_is uses_is room more same =
          let kept = kept_changed (seen_rows p rows) r old appended_row has.seen in
          let full = filled_changed (seen_rows p rows) r old appended_row has.seen in
          let slots_after = sum_about version_slots xs (shown_version now) ys in
          let filled_after = sum_about filled_one xs (shown_version now) ys in
          let fills = filled_grown filled' filled f.version.placed a.placed grown a.filled_is more_placed more same in
          let entries_same : live_count q.entries ≡ live_count p.entries = ap live_count f.entries in
          let nodes_same : live_count q.nodes ≡ live_count p.nodes = ap live_count f.nodes in
          let product : length added * length (ways_of f.version.content.indexes.items) ≡ count * uses = ap (λ k. k * length (ways_of f.version.content.indexes.items)) (sym count_is) ∙ ap (λ k. count * k) (ap length f.ways_are ∙ sym uses_is) in
          let most = one_more filled' filled grown more same in
          let few = few_versions f.was in
          subst (λ all. IsStore s all retired waiting filled' (set (seen_rows p rows) r appended_row)) (sym rows_are)
          (store_step p s rows retired retired waiting filled waiting filled' (seen_rows p rows) r row row' old appended_row h.gone h is has.seen
          (λ theirs differs waits. keeps theirs differs)
          (f.before ++ now ∷ f.after, a.changes.row_is, seen_about (f.before ++ now ∷ f.after) f.before now f.after refl)
          (waiting_frame p s (keeps Retired (retired_other r)) retired h.gone h.wait)
          (record {
            waits = h.counted.waits;
            live = omega (arith, a.versions, a.changes.live, h.counted.live, kept, slots_were f.was, slots_after, slots_by_placed f.version, slots_now, entries_same, nodes_same);
            fills = omega (arith, h.counted.fills, fills, full, filled_were f.was, filled_after);
            spare = omega (arith, a.spare, f.total, few, most, room.versions_spare);
            versions_fit = omega (arith, a.versions, few, most, room.versions_fit);
            entries_fit = omega (arith, a.entries, entries_same, count_is, room.entries_fit);
            nodes_fit = omega (arith, a.nodes, nodes_same, product, room.nodes_fit);
          }))

      module _ (stands : IsStore s rows' retired waiting filled' (set (seen_rows p rows) r appended_row)) where
        -- what callers see of it
        appended_rows : seen_rows s rows' ≡ set (seen_rows p rows) r appended_row
        appended_rows = rows_view s rows' (set (seen_rows p rows) r appended_row) stands.has_rows

        appended_row_at : row_at (view_of s rows' waiting) r ≡ appended_row
        appended_row_at =
            ap (λ (vs : List (List ShownVersion)). option_map_or (λ x. x) (slice_get vs r) []) appended_rows
            ∙ ap (λ o. option_map_or (λ x. x) o []) (get_set_same (seen_rows p rows) r old appended_row has.seen)

        store_appended : (p0 : Pools) → seen_rows p rows ≡ seen_rows p0 rows → row_at (view_of p0 rows waiting) r ≡ old → AppendsTo p0 rows s rows' retired waiting filled' r number serial ways added
        store_appended p0 same seen = record {
          stands = subst (IsStore s rows' retired waiting filled') (sym appended_rows) stands;
          changes =
              subst (λ vs. Changes number (with_last_entries added serial) vs (row_at (view_of s rows' waiting) r)) (sym seen)
              (subst (Changes number (with_last_entries added serial) old) (sym appended_row_at) (appended_changes f.was));
          searched = λ all. subst (AreSearchedBy ways) (sym appended_row_at) (appended_searched (subst (AreSearchedBy ways) seen all));
          counted = λ first last numbered all some most.
              subst AreCounted (sym appended_row_at)
              (appended_counted first last (subst (AreNumbered first last) seen numbered) (subst AreCounted seen all) some
              (subst (λ vs. length (version_numbered number vs).entries + length added ≤ serial) seen most));
          others = appended_rows ∙ ap (λ vs. set vs r appended_row) same ∙ ap (set (seen_rows p0 rows) r) (sym appended_row_at);
        }

      pub appends_to : (p0 : Pools) → seen_rows p rows ≡ seen_rows p0 rows → row_at (view_of p0 rows waiting) r ≡ old → (count uses : ℕ) → count ≡ length added → uses ≡ length ways → HasRoomFor count (count * uses) (filled + 2) p → (grown ≡ true → filled' ≡ filled + 1) → (grown ≡ false → filled' ≡ filled)
          → AppendsTo p0 rows s rows' retired waiting filled' r number serial ways added
      appends_to p0 same seen count uses count_is uses_is room more still =
          store_appended (appended_store count uses count_is uses_is room more still) p0 same seen
