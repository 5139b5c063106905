-- What a call on one version of a row ensures, from what it does to the version.
use Rattle.std.proofs.Common.{◌≡◌, ◌≢◌, ℕ, ◌+◌, ◌≤◌, true, false, List, [], ◌∷◌, ◌++◌, length, map, set, Option, Some, None, All, Bool, refl, sym, ap, subst, ◌∙◌, inl, inr, arith, not}
use Rattle.std.specs.Option.{option_map_or}
use Rattle.std.specs.Prelude.{slice_get, Result, Ok, Err, OnErr}
use Rattle.std.proofs.lemmas.List.{length-map}
use Rattle.std.proofs.lemmas.List.Filters.{length-filter_both}
use Rattle.std.proofs.lemmas.List.Sums.{get_or-le-sum_by}
use Rattle.hx_sample.specs.Find.{Entry}
use Rattle.std.proofs.lemmas.Option.{get_or_from_slice_get, slice_get_within}
use Rattle.hx_text.specs.declared.kinds.By.{By}
use Rattle.hx_pool.specs.declared.chain.Chain.{Chain}
use Rattle.hx_versions.specs.declared.pools.Pools.{Pools}
use Rattle.hx_versions.specs.declared.pools.Row.{Row}
use Rattle.hx_versions.specs.declared.stored_version.Owner.TheVariants.{Reference}
use Rattle.hx_versions.specs.Contents.{PlacedEntry, entries_of, without_chosen_entries}
use Rattle.hx_versions.specs.Versions.{Version, empty_version}
use Rattle.hx_versions.specs.Rows.{AreNumbered, Changes, IsSearchedBy, ShownVersion, StoreView, filled_by, filled_one, row_at, version_in_row}
use Rattle.hx_versions.specs.Store.{ChangesVersionAt, IsRow, IsSlotOf, IsStore, PlacedVersion, filled_count, is_emptied, seen_rows, shown_version}
use Rattle.hx_versions.proofs.CountingLemmas.{row_filled}
use Rattle.hx_versions.proofs.PartLemmas.{sum_about}
use Rattle.hx_versions.proofs.RowChangeLemmas.{unchanged}
use Rattle.hx_versions.proofs.StoreChangeLemmas.{all_changed, changed_row_at, changed_rows, changed_version, new_row, set_self}
use Rattle.hx_versions.proofs.StoreLemmas.{HasVersions, row_seen_at}
use Rattle.hx_versions.proofs.VersionReadLemmas.{above_seen, below_seen, seen_about, seen_beside}

abbrev pub view_of : Pools → List Row → ℕ → StoreView
view_of p rows waiting = record { rows = seen_rows p rows; waiting = waiting }

module _ (p : Pools) (rows : List Row) (r : ℕ) (row : Row) (has : HasVersions p rows r row) (number : ℕ) where
  -- where the row has no version of the number, nothing is to change
  pub none_changes : (waiting : ℕ) (change : Version → Version) → IsSlotOf number None has.versions → change empty_version ≡ empty_version → Changes number change (row_at (view_of p rows waiting) r) (row_at (view_of p rows waiting) r)
  none_changes waiting change none still =
      let seen = row_seen_at p rows r waiting row has ∙ seen_beside has.versions none.0 none.1 none.2 in
      subst (λ xs. Changes number change xs xs) (sym seen)
      (λ first last all low high. unchanged first last number (map shown_version none.0) (map shown_version none.1) change all (below_seen number none.0 none.3) (above_seen number none.1 none.4) still)

  pub same_rows : (waiting : ℕ) → seen_rows p rows ≡ set (seen_rows p rows) r (row_at (view_of p rows waiting) r)
  same_rows waiting =
      sym (set_self (seen_rows p rows) r (map shown_version has.versions) has.seen)
      ∙ ap (set (seen_rows p rows) r) (sym (row_seen_at p rows r waiting row has))

  module _ (slot : ℕ) (at : IsSlotOf number (Some slot) has.versions) where
    pub row_stands : IsRow p (Reference r) row (at.0 ++ at.1 ∷ at.2)
    row_stands = subst (IsRow p (Reference r) row) at.3 has.stands

    pub row_is_seen : slice_get (seen_rows p rows) r ≡ Some (map shown_version (at.0 ++ at.1 ∷ at.2))
    row_is_seen = has.seen ∙ ap (λ xs. Some (map shown_version xs)) at.3

    module _ (q : Pools) (retired : Chain) (waiting filled filled' serial : ℕ) (placed : List PlacedEntry) (h : IsStore p rows retired waiting filled (seen_rows p rows)) (is : slice_get rows r ≡ Some row) (changes : ChangesVersionAt p q (Reference r) row at.0 at.1 at.2 serial placed)
        (stands : IsStore q rows retired waiting filled' (set (seen_rows p rows) r (new_row p q rows retired waiting filled filled' r row at.0 at.1 at.2 serial placed h is row_is_seen changes))) where
      now_rows : seen_rows q rows ≡ set (seen_rows p rows) r (new_row p q rows retired waiting filled filled' r row at.0 at.1 at.2 serial placed h is row_is_seen changes)
      now_rows = changed_rows p q rows retired waiting filled filled' r row at.0 at.1 at.2 serial placed h is row_is_seen changes stands

      now_row : row_at (view_of q rows waiting) r ≡ new_row p q rows retired waiting filled filled' r row at.0 at.1 at.2 serial placed h is row_is_seen changes
      now_row = changed_row_at p q rows retired waiting filled filled' r row at.0 at.1 at.2 serial placed h is row_is_seen changes waiting now_rows

      old_row : row_at (view_of p rows waiting) r ≡ map shown_version (at.0 ++ at.1 ∷ at.2)
      old_row = ap (λ o. option_map_or (λ x. x) o []) row_is_seen

      pub other_rows : seen_rows q rows ≡ set (seen_rows p rows) r (row_at (view_of q rows waiting) r)
      other_rows = now_rows ∙ ap (set (seen_rows p rows) r) (sym now_row)

      pub row_changes : (change : Version → Version) → version_in_row (shown_version (record at.1 { serial = serial; content = changes.content; placed = placed })) ≡ change (version_in_row (shown_version at.1)) → Changes number change (row_at (view_of p rows waiting) r) (row_at (view_of q rows waiting) r)
      row_changes change shown_is =
          subst (λ xs. Changes number change xs (row_at (view_of q rows waiting) r)) (sym old_row)
          (subst (Changes number change (map shown_version (at.0 ++ at.1 ∷ at.2))) (sym now_row)
          (changed_version p q rows retired waiting filled filled' r row at.0 at.1 at.2 serial placed h is row_is_seen changes number change at.6 shown_is))

      pub each_changes : (P : ShownVersion → Type 0) → (P (shown_version at.1) → P (shown_version (record at.1 { serial = serial; content = changes.content; placed = placed }))) → All P (row_at (view_of p rows waiting) r) → All P (row_at (view_of q rows waiting) r)
      each_changes P keeps all =
          subst (All P) (sym now_row)
          (all_changed P (map shown_version at.0) (shown_version at.1) (shown_version (record at.1 { serial = serial; content = changes.content; placed = placed })) (map shown_version at.2) keeps
          (subst (All P) (old_row ∙ seen_about (at.0 ++ at.1 ∷ at.2) at.0 at.1 at.2 refl) all))

-- a version with the same ways, which has no entries where the other has none
pub searched_keeps : (ways : List (By × Bool)) (a b : ShownVersion) → b.ways ≡ a.ways → (a.entries ≡ [] → b.entries ≡ []) → IsSearchedBy ways a → IsSearchedBy ways b
searched_keeps ways a b same none (inl is) = inl (same ∙ is)
searched_keeps ways a b same none (inr is) = inr (same ∙ is.0, none is.1)

pub on_err : {T E : Type 0} {P Q : Type 0} (r : Result T E) → (P → Q) → OnErr r P → OnErr r Q
on_err (Ok x) f p = tt
on_err (Err e) f p = f p

-- ---- how many versions have entries

-- a version with entries is one of them
pub filled_within : (shown : List (List ShownVersion)) (r : ℕ) (xs : List ShownVersion) (s : ShownVersion) (ys : List ShownVersion) → slice_get shown r ≡ Some (xs ++ s ∷ ys) → filled_one s ≤ filled_count shown
filled_within shown r xs s ys is =
    omega (arith, get_or-le-sum_by row_filled shown r [] (slice_get_within shown r (xs ++ s ∷ ys) is), ap row_filled (get_or_from_slice_get shown r (xs ++ s ∷ ys) [] is), sum_about filled_one xs s ys)

pub emptied_some : (placed left : List PlacedEntry) (emptied : Bool) → emptied ≡ is_emptied placed left → emptied ≡ true → filled_by (entries_of placed) ≡ 1
emptied_some [] left emptied is some = absurd (cc)
emptied_some (p ∷ placed) left emptied is some = refl

pub fewer_most : (filled' filled : ℕ) (less : Bool) → (less ≡ true → filled' + 1 ≡ filled) → (less ≡ false → filled' ≡ filled) → filled' ≤ filled
fewer_most filled' filled true less same = omega (arith, less refl)
fewer_most filled' filled false less same = omega (arith, same refl)

-- ---- entries that are left

pub left_most : (test : Entry → Bool) (placed : List PlacedEntry) → length (without_chosen_entries test placed) ≤ length placed
left_most test placed =
    omega (arith, length-filter_both (λ (p : PlacedEntry). not (test p.entry)) (λ (p : PlacedEntry). not (not (test p.entry))) (λ p. refl) placed)

pub entries_most : (placed left : List PlacedEntry) (serial : ℕ) → length left ≤ length placed → length (entries_of placed) ≤ serial → length (entries_of left) ≤ serial
entries_most placed left serial few most =
    let entry = λ (p : PlacedEntry). p.entry in
    omega (arith, few, most, length-map placed entry, length-map left entry)
