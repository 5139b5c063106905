-- What the store stands for after a step on one row.
use Rattle.std.proofs.Common.{◌≡◌, ◌≢◌, ℕ, zero, suc, ◌+◌, ◌*◌, ◌<◌, ◌≤◌, Bool, List, [], ◌∷◌, ◌++◌, length, map, get_or, set, Option, Some, None, IsSome, All, refl, sym, ap, subst, ◌∙◌, inl, inr, arith}
use Rattle.std.specs.List.{sum_by}
use Rattle.std.specs.Option.{option_map, option_map_or}
use Rattle.std.specs.Prelude.{slice_get}
use Rattle.std.proofs.lemmas.Bool.{cases_eq}
use Rattle.std.proofs.lemmas.List.{length-map}
use Rattle.std.proofs.lemmas.List.Elements.{All-weaker}
use Rattle.std.proofs.lemmas.List.Sums.{sum_by-set}
use Rattle.std.proofs.lemmas.Option.{get_or_from_slice_get, slice_get-map, slice_get_read, slice_get_within}
use Rattle.hx_pool.specs.declared.chain.Chain.{Chain}
use Rattle.hx_pool.specs.declared.links.Links.{Links}
use Rattle.hx_pool.specs.Pool.{Updates, get, live_count}
use Rattle.hx_pool.specs.Chain.{IsIn, LiesIn, links_at}
use Rattle.hx_pool.proofs.ListLemmas.{lies_linked}
use Rattle.hx_pool.proofs.LyingLemmas.{distinct_off}
use Rattle.hx_pool.proofs.ChainLemmas.{in_left, in_right}
use Rattle.hx_versions.specs.declared.content.Content.{Content}
use Rattle.hx_versions.specs.declared.pools.Pools.{Pools}
use Rattle.hx_versions.specs.declared.pools.Row.{Row}
use Rattle.hx_versions.specs.declared.stored_version.Owner.{Owner}
use Rattle.hx_versions.specs.declared.stored_version.Owner.TheVariants.{Reference, Retired}
use Rattle.hx_versions.specs.declared.stored_version.StoredVersion.{StoredVersion}
use Rattle.hx_versions.specs.StoredVersions.{version_links}
use Rattle.hx_versions.specs.Contents.{IsContent, LeavesOthers, PlacedEntry, entries_of}
use Rattle.hx_versions.specs.Rows.{ShownVersion, filled_one, kept_slots, row_at, row_slots, version_slots}
use Rattle.hx_versions.specs.Store.{AreRetired, CountsSlots, HasContent, HasRow, HasVersion, IsRow, IsStore, KeepsVersions, LeavesRows, PlacedVersion, RetiredVersion, VersionPool, filled_count, seen_row, seen_rows, shown_version, version_slots_of}
use Rattle.hx_versions.proofs.ContentLemmas.{content_frame, keeps_other}
use Rattle.hx_versions.proofs.IndexListLemmas.{get_set_other, get_set_same}
use Rattle.hx_versions.proofs.PartLemmas.{all_about, all_after, all_here, all_left, none_has, numbers_about, sum_about}
use Rattle.hx_versions.proofs.RowLemmas.{has_row_frame, row_view, rows_view, waiting_frame}

-- ---- one version of a row changes

module _ (owner : Owner) (p q : Pools) (row : Row) (before : List PlacedVersion) (v v' : PlacedVersion) (after : List PlacedVersion) (h : IsRow p owner row (before ++ v ∷ after)) (same_slot : v'.slot ≡ v.slot) where
  abbrev slot_of : PlacedVersion → ℕ
  slot_of x = x.slot

  slots_about : version_slots_of (before ++ v ∷ after) ≡ version_slots_of before ++ v.slot ∷ version_slots_of after
  slots_about = numbers_about slot_of before v after

  slots_changed : version_slots_of (before ++ v' ∷ after) ≡ version_slots_of (before ++ v ∷ after)
  slots_changed =
      numbers_about slot_of before v' after
      ∙ ap (λ k. version_slots_of before ++ k ∷ version_slots_of after) same_slot
      ∙ sym slots_about

  lies_about : LiesIn version_links p.versions row.versions (version_slots_of before ++ v.slot ∷ version_slots_of after)
  lies_about = subst (LiesIn version_links p.versions row.versions) slots_about h.chain

  off_before : All (λ w. slot_of w ≢ v.slot) before
  off_before = none_has slot_of before v.slot (λ there. distinct_off (version_slots_of before) v.slot (version_slots_of after) lies_about.distinct (in_left (version_slots_of before) (version_slots_of after) v.slot there))

  off_after : All (λ w. slot_of w ≢ v.slot) after
  off_after = none_has slot_of after v.slot (λ there. distinct_off (version_slots_of before) v.slot (version_slots_of after) lies_about.distinct (in_right (version_slots_of before) (version_slots_of after) v.slot there))

  module _ (s s' : StoredVersion) (is : get p.versions v.slot ≡ Some s) (updates : Updates p.versions q.versions v.slot (Some s')) (links : s'.links ≡ s.links) (leaves : LeavesOthers v.slot p.entries q.entries p.nodes q.nodes) where
    other_found : (w : PlacedVersion) → HasVersion p.versions owner w → slot_of w ≢ v.slot → HasVersion q.versions owner w
    other_found w has differs = record {
      stored = has.stored;
      is = updates.others w.slot differs ∙ has.is;
      owner_is = has.owner_is;
      number_is = has.number_is;
      serial_is = has.serial_is;
      content_is = has.content_is;
    }

    other_stands : (w : PlacedVersion) → HasContent p w → slot_of w ≢ v.slot → HasContent q w
    other_stands w has differs =
        content_frame w.slot p.entries q.entries p.nodes q.nodes (keeps_other v.slot w.slot p.entries q.entries p.nodes q.nodes leaves differs) w.content w.placed has

    others_found : (ws : List PlacedVersion) → All (HasVersion p.versions owner) ws → All (λ w. slot_of w ≢ v.slot) ws → All (HasVersion q.versions owner) ws
    others_found ws found off i d below =
        All-weaker (λ w. HasVersion p.versions owner w × (slot_of w ≢ v.slot)) (HasVersion q.versions owner) (λ w both. other_found w both.0 both.1) ws (λ j e within. (found j e within, off j e within)) i d below

    others_stand : (ws : List PlacedVersion) → All (HasContent p) ws → All (λ w. slot_of w ≢ v.slot) ws → All (HasContent q) ws
    others_stand ws found off i d below =
        All-weaker (λ w. HasContent p w × (slot_of w ≢ v.slot)) (HasContent q) (λ w both. other_stands w both.0 both.1) ws (λ j e within. (found j e within, off j e within)) i d below

    links_kept : (k : ℕ) → links_at version_links q.versions k ≡ links_at version_links p.versions k
    links_kept k = elim (cases_eq k v.slot) as (λ _. links_at version_links q.versions k ≡ links_at version_links p.versions k) [
      | inl e ↦
          ap (links_at version_links q.versions) e ∙ ap (option_map version_links) updates.changed
          ∙ ap Some links ∙ ap (option_map version_links) (sym is) ∙ ap (links_at version_links p.versions) (sym e)
      | inr differs ↦ ap (option_map version_links) (updates.others k differs)
    ]

    -- the row stands with the other version in its place
    pub row_changed : s'.owner ≡ owner → s'.number ≡ v'.number → s'.serial ≡ v'.serial → s'.content ≡ v'.content → HasContent q v' → IsRow q owner row (before ++ v' ∷ after)
    row_changed owner_is number_is serial_is content_is content =
        let here : HasVersion q.versions owner v' = record {
          stored = s';
          is = ap (get q.versions) same_slot ∙ updates.changed;
          owner_is = owner_is;
          number_is = number_is;
          serial_is = serial_is;
          content_is = content_is;
        } in
        record {
          chain = subst (LiesIn version_links q.versions row.versions) (sym slots_changed) (lies_linked version_links p.versions q.versions row.versions (version_slots_of (before ++ v ∷ after)) h.chain (λ k there. links_kept k));
          count = h.count ∙ same_length before v v' after;
          found = all_about (HasVersion q.versions owner) before v' after (others_found before (all_left (HasVersion p.versions owner) before (v ∷ after) h.found) off_before) here (others_found after (all_after (HasVersion p.versions owner) before v after h.found) off_after);
          contents = all_about (HasContent q) before v' after (others_stand before (all_left (HasContent p) before (v ∷ after) h.contents) off_before) content (others_stand after (all_after (HasContent p) before v after h.contents) off_after);
        }
      where
        same_length : (xs : List PlacedVersion) (y z : PlacedVersion) (ys : List PlacedVersion) → length (xs ++ y ∷ ys) ≡ length (xs ++ z ∷ ys)
        same_length [] y z ys = refl
        same_length (x ∷ xs) y z ys = ap suc (same_length xs y z ys)

-- ---- one row changes

-- The store stands for the rows of which one is another, as does the chain of those that wait.
pub store_step : (p q : Pools) (rows : List Row) (retired retired' : Chain) (waiting filled waiting' filled' : ℕ) (shown : List (List ShownVersion)) (r : ℕ) (row row' : Row) (old new : List ShownVersion) (gone' : List RetiredVersion)
    → IsStore p rows retired waiting filled shown → slice_get rows r ≡ Some row → slice_get shown r ≡ Some old
    → LeavesRows r p q → HasRow q r (Some row') (Some new) → AreRetired q retired' gone'
    → CountsSlots q waiting' filled' (set shown r new) gone'
    → IsStore q (set rows r row') retired' waiting' filled' (set shown r new)
store_step p q rows retired retired' waiting filled waiting' filled' shown r row row' old new gone' h row_is shown_is leaves stands wait counted = record {
  has_rows = λ other. elim (cases_eq other r) as (λ _. HasRow q other (slice_get (set rows r row') other) (slice_get (set shown r new) other)) [
    | inl e ↦
        subst (λ k. HasRow q k (slice_get (set rows r row') k) (slice_get (set shown r new) k)) (sym e)
        (subst (λ o. HasRow q r o (slice_get (set shown r new) r)) (sym (get_set_same rows r row row' row_is))
        (subst (HasRow q r (Some row')) (sym (get_set_same shown r old new shown_is)) stands))
    | inr differs ↦
        subst (λ o. HasRow q other o (slice_get (set shown r new) other)) (sym (get_set_other rows r other row' differs))
        (subst (HasRow q other (slice_get rows other)) (sym (get_set_other shown r other new differs))
        (has_row_frame p q other (slice_get rows other) (slice_get shown other) (leaves (Reference other) (λ same. differs (same_reference other r same)) (another other)) (h.has_rows other)))
  ];
  gone = gone';
  wait = wait;
  counted = counted;
}
  where
    same_reference : (a b : ℕ) → Reference a ≡ Reference b → a ≡ b
    same_reference a b e = cc

    another : (a : ℕ) → Reference a ≢ Retired
    another a e = cc

-- the sum over rows, of which one is another
pub sum_changed : {X : Type 0} (f : X → ℕ) (xs : List X) (i : ℕ) (x y : X) → slice_get xs i ≡ Some x → sum_by f (set xs i y) + f x ≡ sum_by f xs + f y
sum_changed f xs i x y is =
    ap (λ z. sum_by f (set xs i y) + f z) (sym (get_or_from_slice_get xs i x x is))
    ∙ sum_by-set f xs i y x (slice_get_within xs i x is)

-- ---- the row at a position

pub record HasVersions (p : Pools) (rows : List Row) (r : ℕ) (row : Row) : Type 0 where
  pub versions : List PlacedVersion
  pub stands : IsRow p (Reference r) row versions
  pub seen : slice_get (seen_rows p rows) r ≡ Some (map shown_version versions)

from_row : (p : Pools) (rows : List Row) (r : ℕ) (row : Row) (shown : List ShownVersion) → slice_get (seen_rows p rows) r ≡ Some shown → HasRow p r (Some row) (Some shown) → HasVersions p rows r row
from_row p rows r row shown is h = record {
  versions = h.0;
  stands = h.1;
  seen = is ∙ ap Some (sym h.2);
}

pub versions_of : (p : Pools) (rows : List Row) (retired : Chain) (waiting filled r : ℕ) (row : Row) → IsStore p rows retired waiting filled (seen_rows p rows) → slice_get rows r ≡ Some row → HasVersions p rows r row
versions_of p rows retired waiting filled r row h is =
    let seen : slice_get (seen_rows p rows) r ≡ Some (seen_row p row) = slice_get-map (seen_row p) rows r ∙ ap (option_map (seen_row p)) is in
    from_row p rows r row (seen_row p row) seen
    (subst (HasRow p r (Some row)) seen (subst (λ o. HasRow p r o (slice_get (seen_rows p rows) r)) is (h.has_rows r)))

-- what callers see of it
pub row_seen_at : (p : Pools) (rows : List Row) (r waiting : ℕ) (row : Row) (has : HasVersions p rows r row) → row_at (record { rows = seen_rows p rows; waiting = waiting }) r ≡ map shown_version has.versions
row_seen_at p rows r waiting row has = ap (λ o. option_map_or (λ x. x) o []) has.seen

pub row_there : (p : Pools) (rows : List Row) (r : ℕ) (row : Row) → r < length (seen_rows p rows) → row ≡ get_or rows r row → slice_get rows r ≡ Some row
row_there p rows r row within is =
    slice_get_read rows (length rows) r row refl (subst (λ k. r < k) (length-map rows (seen_row p)) within) is
