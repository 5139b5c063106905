-- What the store stands for after a version was cleared, and what callers see.
use Rattle.std.proofs.Common.{◌≡◌, ℕ, zero, suc, ◌+◌, ◌*◌, ◌^◌, ◌<◌, ◌⊎◌, Bool, true, false, ltb, List, [], ◌∷◌, ◌++◌, length, map, set, Some, None, All, refl, sym, ap, subst, ◌∙◌, inl, inr, arith, le-ltb, lt-ltb, ltb-true}
use Rattle.std.specs.Option.{option_map_or}
use Rattle.std.specs.Prelude.{slice_get}
use Rattle.hx_text.specs.declared.kinds.By.{By}
use Rattle.hx_sample.specs.Find.{Entry}
use Rattle.hx_pool.specs.declared.chain.Chain.{Chain}
use Rattle.hx_versions.specs.declared.pools.Pools.{Pools}
use Rattle.hx_versions.specs.declared.pools.Row.{Row}
use Rattle.hx_versions.specs.declared.stored_version.Owner.TheVariants.{Reference}
use Rattle.hx_versions.specs.Contents.{PlacedEntry, entries_of}
use Rattle.hx_versions.specs.Versions.{Version}
use Rattle.hx_versions.specs.Rows.{AreBelow, AreCounted, AreNumbered, AreSearchedBy, Changes, IsCounted, IsSearchedBy, ShownVersion, changed_entries, cleared_slots, filled_by, filled_one, row_at, version_in_row, version_slots}
use Rattle.hx_versions.specs.Store.{HasFewSlots, IsCleared, IsRow, IsSlotOf, IsStore, PlacedVersion, as_retired, seen_rows, shown_version}
use Rattle.hx_versions.proofs.CountingLemmas.{counts_cleared}
use Rattle.hx_versions.proofs.IndexListLemmas.{get_set_same, some_same}
use Rattle.hx_versions.proofs.PartLemmas.{all_here}
use Rattle.hx_versions.proofs.PlaceLemmas.{waiting_as}
use Rattle.hx_versions.proofs.RowChangeLemmas.{changed_here, cleared_absent, cleared_here}
use Rattle.hx_versions.proofs.RowLemmas.{rows_view}
use Rattle.hx_versions.proofs.StoreChangeLemmas.{all_changed, set_self}
use Rattle.hx_versions.proofs.StoreClauseLemmas.{filled_within, view_of}
use Rattle.hx_versions.proofs.StoreDropLemmas.{same_seen, same_store, slot_alone, slots_few}
use Rattle.hx_versions.proofs.StoreLemmas.{HasVersions, row_seen_at, store_step}
use Rattle.hx_versions.proofs.VersionReadLemmas.{above_seen, below_seen, seen_about, seen_beside}

-- ---- a version without entries in the place of another

-- what callers see in the place from then on, and what the store stands for
pub record HasCleared (q : Pools) (rows' : List Row) (retired' : Chain) (waiting' filled' cleared r : ℕ) (shown : List (List ShownVersion)) (xs : List ShownVersion) (s : ShownVersion) (ys : List ShownVersion) : Type 0 where
  pub now : ShownVersion
  pub number_is : now.number ≡ s.number
  pub shown_is : version_in_row now ≡ changed_entries (λ _. []) (version_in_row s)
  pub searched : (ways : List (By × Bool)) → IsSearchedBy ways s → IsSearchedBy ways now
  pub rows_are : seen_rows q rows' ≡ set shown r (xs ++ now ∷ ys)
  pub stands : IsStore q rows' retired' waiting' filled' (seen_rows q rows')
  pub waits : cleared ≡ filled_one s * version_slots s

abbrev without_entries : List Entry → List Entry
without_entries entries = []

module _ (p q : Pools) (rows rows' : List Row) (retired' : Chain) (waiting waiting' filled' cleared r number : ℕ) (xs : List ShownVersion) (s : ShownVersion) (ys : List ShownVersion) (was : slice_get (seen_rows p rows) r ≡ Some (xs ++ s ∷ ys)) (k : HasCleared q rows' retired' waiting' filled' cleared r (seen_rows p rows) xs s ys) where
  old_row : row_at (view_of p rows waiting) r ≡ xs ++ s ∷ ys
  old_row = ap (λ o. option_map_or (λ x. x) o []) was

  now_row : row_at (view_of q rows' waiting') r ≡ xs ++ k.now ∷ ys
  now_row =
      ap (λ zs. option_map_or (λ x. x) (slice_get zs r) []) k.rows_are
      ∙ ap (λ o. option_map_or (λ x. x) o []) (get_set_same (seen_rows p rows) r (xs ++ s ∷ ys) (xs ++ k.now ∷ ys) was)

  pub cleared_changes : s.number ≡ number → Changes number (changed_entries (λ _. [])) (row_at (view_of p rows waiting) r) (row_at (view_of q rows' waiting') r)
  cleared_changes same =
      subst (λ zs. Changes number (changed_entries without_entries) zs (row_at (view_of q rows' waiting') r)) (sym old_row)
      (subst (Changes number (changed_entries without_entries) (xs ++ s ∷ ys)) (sym now_row)
      (λ first last all low high. changed_here first last number xs s k.now ys (changed_entries without_entries) all same (k.number_is ∙ same) k.shown_is))

  each_cleared : (P : ShownVersion → Type 0) → (P s → P k.now) → All P (row_at (view_of p rows waiting) r) → All P (row_at (view_of q rows' waiting') r)
  each_cleared P keeps all =
      subst (All P) (sym now_row) (all_changed P xs s k.now ys keeps (subst (All P) old_row all))

  pub cleared_searched : (ways : List (By × Bool)) → AreSearchedBy ways (row_at (view_of p rows waiting) r) → AreSearchedBy ways (row_at (view_of q rows' waiting') r)
  cleared_searched ways = each_cleared (IsSearchedBy ways) (k.searched ways)

  pub cleared_counted : AreCounted (row_at (view_of p rows waiting) r) → AreCounted (row_at (view_of q rows' waiting') r)
  cleared_counted =
      let serial : k.now.serial ≡ s.serial = ap (λ (v : Version). v.serial) k.shown_is in
      let none : length k.now.entries ≡ 0 = ap (λ (v : Version). length v.entries) k.shown_is in
      each_cleared IsCounted (λ counted. (omega (arith, serial, counted.0), omega (arith, none)))

  pub cleared_others : seen_rows q rows' ≡ set (seen_rows p rows) r (row_at (view_of q rows' waiting') r)
  cleared_others = k.rows_are ∙ ap (set (seen_rows p rows) r) (sym now_row)

  pub cleared_waiting : AreBelow number xs → s.number ≡ number → waiting + cleared ≡ waiting + cleared_slots number (row_at (view_of p rows waiting) r)
  cleared_waiting below same =
      ap (λ n. waiting + n) (k.waits ∙ sym (ap (cleared_slots number) old_row ∙ cleared_here number xs s ys below same))

-- ---- where the row has no version of the number

pub absent_waiting : (p : Pools) (rows : List Row) (r : ℕ) (row : Row) (has : HasVersions p rows r row) (number waiting : ℕ) → IsSlotOf number None has.versions → (first last : ℕ) → AreNumbered first last (row_at (view_of p rows waiting) r) → waiting ≡ waiting + cleared_slots number (row_at (view_of p rows waiting) r)
absent_waiting p rows r row has number waiting none first last all =
    let seen = row_seen_at p rows r waiting row has ∙ seen_beside has.versions none.0 none.1 none.2 in
    let nothing : cleared_slots number (row_at (view_of p rows waiting) r) ≡ 0 = ap (cleared_slots number) seen ∙ cleared_absent number first last (map shown_version none.0) (map shown_version none.1) (subst (AreNumbered first last) seen all) (below_seen number none.0 none.3) (above_seen number none.1 none.4) in
    omega (arith, nothing)

-- ---- a version with entries or without

some_or_none : (n : ℕ) → (n ≡ 0) ⊎ (0 < n)
some_or_none zero = inl refl
some_or_none (suc n) = inr (omega arith)

no_entries : (placed : List PlacedEntry) → length placed ≡ 0 → entries_of placed ≡ []
no_entries [] none = refl
no_entries (e ∷ placed) none = absurd (omega (arith, none))

some_entries : (placed : List PlacedEntry) → 0 < length placed → filled_by (entries_of placed) ≡ 1
some_entries [] some = absurd (omega (arith, some))
some_entries (e ∷ placed) some = refl

once : (a b c : ℕ) → a ≡ 1 → c ≡ b → c ≡ a * b
once a b c one same = rw (one, same) (omega arith)

never : (a b c : ℕ) → a ≡ 0 → c ≡ 0 → c ≡ a * b
never a b c none nothing = rw (none, nothing) (omega arith)

module _ (p : Pools) (rows : List Row) (retired : Chain) (waiting filled r : ℕ) (row : Row) (h : IsStore p rows retired waiting filled (seen_rows p rows)) (row_is : slice_get rows r ≡ Some row) (has : HasVersions p rows r row) (number slot : ℕ) (at : IsSlotOf number (Some slot) has.versions) where
  abbrev before : List ShownVersion
  before = map shown_version at.0

  abbrev here : ShownVersion
  here = shown_version at.1

  abbrev after : List ShownVersion
  after = map shown_version at.2

  pub seen_here : slice_get (seen_rows p rows) r ≡ Some (map shown_version at.0 ++ shown_version at.1 ∷ map shown_version at.2)
  seen_here = has.seen ∙ ap Some (seen_about has.versions at.0 at.1 at.2 at.3)

  pub few_here : HasFewSlots at.1
  few_here =
      all_here HasFewSlots at.0 at.1 at.2 (subst (All HasFewSlots) at.3 (slots_few p rows retired waiting filled h r has.versions has.seen))

  filled_some : 0 < length at.1.placed → 0 < filled
  filled_some some =
      omega (arith, some_entries at.1.placed some, filled_within (seen_rows p rows) r before here after seen_here, h.counted.fills)

  -- a slot is spare for one without entries
  pub spare_here : 0 < length at.1.placed → 0 < p.versions.spare
  spare_here some = omega (arith, filled_some some, h.counted.spare)

  -- what a call that clears asks of the row
  pub place_here : (x : Row) → slice_get rows r ≡ Some x → (xs : List PlacedVersion) × (v : PlacedVersion) × (ys : List PlacedVersion) × (v.slot ≡ slot) × IsRow p (Reference r) x (xs ++ v ∷ ys) × HasFewSlots v × (0 < length v.placed → 0 < p.versions.spare)
  place_here x is = (
    at.0,
    at.1,
    at.2,
    at.5,
    subst (λ y. IsRow p (Reference r) y (at.0 ++ at.1 ∷ at.2)) (some_same row x (sym row_is ∙ is))
        (subst (IsRow p (Reference r) row) at.3 has.stands),
    few_here,
    spare_here,
  )

  module _ (q : Pools) (rows' : List Row) (retired' : Chain) (cleared : ℕ)
      (empty : length at.1.placed ≡ 0 → cleared ≡ 0)
      (clears : 0 < length at.1.placed → IsCleared cleared p q rows rows' r retired' at.0 at.1 at.2 h.gone)
      (none : cleared ≡ 0 → (q ≡ p) × (rows' ≡ rows) × (retired' ≡ retired)) where
    pub cleared_few : cleared < 2 ^ 40
    cleared_few = elim (some_or_none (length at.1.placed)) as (λ _. cleared < 2 ^ 40) [
      | inl e ↦ omega (arith, empty e)
      | inr some ↦ subst (λ n. n < 2 ^ 40) (sym (clears some).slots) few_here
    ]

    pub cleared_some : ltb 0 cleared ≡ true → 0 < filled
    cleared_some more = elim (some_or_none (length at.1.placed)) as (λ _. 0 < filled) [
      | inl e ↦ absurd (omega (arith, empty e, ltb-true 0 cleared more))
      | inr some ↦ filled_some some
    ]

    module _ (filled' : ℕ) (less : ltb 0 cleared ≡ true → filled' + 1 ≡ filled) (same : ltb 0 cleared ≡ false → filled' ≡ filled) where
      made : ℕ → List Entry → Version
      made serial entries = record { serial = serial; entries = entries }

      -- nothing was to clear
      left_so : length at.1.placed ≡ 0 → HasCleared q rows' retired' (waiting + cleared) filled' cleared r (seen_rows p rows) before here after
      unfolding made
      left_so e =
          let nothing = empty e in
          let is = none nothing in
          let entries = no_entries at.1.placed e in
          let fills : filled' ≡ filled = same (le-ltb 0 cleared (omega (arith, nothing))) in
          let waits : waiting + cleared ≡ waiting = omega (arith, nothing) in
          record {
            now = here;
            number_is = refl;
            shown_is = ap (made at.1.serial) entries;
            searched = λ ways searched. searched;
            rows_are = same_seen p q rows rows' is.0 is.1 ∙ sym (set_self (seen_rows p rows) r (before ++ here ∷ after) seen_here);
            stands =
                subst (λ n. IsStore q rows' retired' n filled' (seen_rows q rows')) (sym waits)
                (subst (λ n. IsStore q rows' retired' waiting n (seen_rows q rows')) (sym fills)
                (same_store p q rows rows' retired retired' waiting filled is.0 is.1 is.2 h));
            waits = never (filled_one here) (version_slots here) cleared (ap filled_by entries) nothing;
          }

      -- one without entries stands there
      made_light : 0 < length at.1.placed → HasCleared q rows' retired' (waiting + cleared) filled' cleared r (seen_rows p rows) before here after
      unfolding made
      made_light some =
          let c = clears some in
          let light = shown_version c.light in
          let entries : light.entries ≡ [] = ap entries_of c.is_light.none in
          let fills : filled' + 1 ≡ filled = less (lt-ltb 0 cleared (omega (arith, c.slots))) in
          let row_now = seen_about (at.0 ++ c.light ∷ at.2) at.0 c.light at.2 refl in
          let stands : IsStore q rows' retired' (waiting + cleared) filled' (set (seen_rows p rows) r (before ++ light ∷ after)) =
          subst (λ xs. IsStore q xs retired' (waiting + cleared) filled' (set (seen_rows p rows) r (before ++ light ∷ after))) (sym c.rows_are)
          (store_step p q rows retired retired' waiting filled (waiting + cleared) filled' (seen_rows p rows) r row c.row (before ++ here ∷ after) (before ++ light ∷ after) (h.gone ++ as_retired at.1 ∷ []) h row_is seen_here c.leaves (at.0 ++ c.light ∷ at.2, c.stands, row_now) c.wait
          (counts_cleared p q waiting filled (waiting + cleared) filled' (seen_rows p rows) h.gone r before here after seen_here h.counted (as_retired at.1) light (waiting_as at.1) (one_slot light entries) (ap filled_by entries) (some_entries at.1.placed some) c.versions c.entries c.nodes c.spare (ap (λ n. waiting + n) c.slots) fills)) in
          let now_rows = rows_view q rows' (set (seen_rows p rows) r (before ++ light ∷ after)) stands.has_rows in
          record {
            now = light;
            number_is = c.is_light.number;
            shown_is = ap (λ n. made n light.entries) c.is_light.serial ∙ ap (made at.1.serial) entries;
            searched = λ ways searched. inr (c.is_light.ways, entries);
            rows_are = now_rows;
            stands = subst (IsStore q rows' retired' (waiting + cleared) filled') (sym now_rows) stands;
            waits = once (filled_one here) (version_slots here) cleared (some_entries at.1.placed some) c.slots;
          }
        where
          one_slot : (s : ShownVersion) → s.entries ≡ [] → version_slots s ≡ 1
          one_slot s none = ap (λ (es : List Entry). 1 + length es * (1 + length s.ways)) none ∙ slot_alone (length s.ways)

      pub has_cleared : HasCleared q rows' retired' (waiting + cleared) filled' cleared r (seen_rows p rows) (map shown_version at.0) (shown_version at.1) (map shown_version at.2)
      has_cleared = elim (some_or_none (length at.1.placed)) as (λ _. HasCleared q rows' retired' (waiting + cleared) filled' cleared r (seen_rows p rows) before here after) [
        | inl e ↦ left_so e
        | inr some ↦ made_light some
      ]
