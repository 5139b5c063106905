-- The version in a place of a row: what the calls on chains ask of it, and the slots that it takes.
use Rattle.std.proofs.Common.{◌≡◌, ◌≢◌, ℕ, zero, suc, ◌+◌, ◌*◌, ◌^◌, ◌<◌, List, [], ◌∷◌, ◌++◌, length, get_or, Some, None, refl, sym, ap, subst, ◌∙◌, arith}
use Rattle.std.specs.Prelude.{slice_get}
use Rattle.std.proofs.lemmas.List.{length-map}
use Rattle.std.proofs.lemmas.Option.{slice_get_read}
use Rattle.hx_pool.specs.declared.chain.Chain.{Chain}
use Rattle.hx_pool.specs.Pool.{IsLive, get}
use Rattle.hx_pool.specs.Chain.{AreApart, IsIn, LiesIn, first_or}
use Rattle.hx_versions.specs.declared.content.Content.{Content}
use Rattle.hx_versions.specs.declared.pools.Pools.{Pools}
use Rattle.hx_versions.specs.declared.pools.Row.{Row}
use Rattle.hx_versions.specs.declared.stored_version.Owner.TheVariants.{Reference, Retired}
use Rattle.hx_versions.specs.declared.stored_version.StoredVersion.{StoredVersion}
use Rattle.hx_versions.specs.StoredVersions.{version_links}
use Rattle.hx_versions.specs.Contents.{PlacedEntry, ways_of}
use Rattle.hx_versions.specs.Rows.{version_slots}
use Rattle.hx_versions.specs.Store.{AreRetired, HasContent, HasFewSlots, IsRow, PlacedVersion, RetiredVersion, as_retired, retired_slots_of, shown_version, version_slots_of}
use Rattle.hx_versions.proofs.ChangingLemmas.{version_at}
use Rattle.hx_versions.proofs.CountingLemmas.{slots_waiting}
use Rattle.hx_versions.proofs.IndexListLemmas.{some_same, way_of}
use Rattle.hx_versions.proofs.MovingLemmas.{owners_apart, set_live}
use Rattle.hx_versions.proofs.PartLemmas.{all_here, numbers_about}
use Rattle.hx_versions.proofs.RetiringLemmas.{whole_counted}

owned : (r : ℕ) → Reference r ≢ Retired
owned r e = cc

-- ---- rows, as an index gives them

pub item_within : {X : Type 0} (xs : List X) (i : ℕ) → i < length xs → (x : X) × (slice_get xs i ≡ Some x)
item_within [] i within = absurd (omega (arith, within))
item_within (x ∷ xs) zero within = (x, refl)
item_within (x ∷ xs) (suc i) within = item_within xs i (omega (arith, within))

pub row_read : (rows : List Row) (r : ℕ) (row : Row) → r < length rows → row ≡ get_or rows r row → slice_get rows r ≡ Some row
row_read rows r row within is = slice_get_read rows (length rows) r row refl within is

-- a row that stands at a position is the one that an index gives there
pub row_there_is : (p : Pools) (rows : List Row) (r : ℕ) (row now : Row) (vs : List PlacedVersion) → slice_get rows r ≡ Some row → slice_get rows r ≡ Some now → IsRow p (Reference r) row vs → IsRow p (Reference r) now vs
row_there_is p rows r row now vs is also h =
    subst (λ x. IsRow p (Reference r) x vs) (some_same row now (sym is ∙ also)) h

-- ---- the version in a place

module _ (p : Pools) (r : ℕ) (row : Row) (before : List PlacedVersion) (v : PlacedVersion) (after : List PlacedVersion) (slot : ℕ) (here : v.slot ≡ slot) (h : IsRow p (Reference r) row (before ++ v ∷ after)) where
  slots_in : version_slots_of (before ++ v ∷ after) ≡ version_slots_of before ++ slot ∷ version_slots_of after
  slots_in =
      numbers_about (λ (x : PlacedVersion). x.slot) before v after
      ∙ ap (λ k. version_slots_of before ++ k ∷ version_slots_of after) here

  pub lies_in : LiesIn version_links p.versions row.versions (version_slots_of before ++ slot ∷ version_slots_of after)
  lies_in = subst (LiesIn version_links p.versions row.versions) slots_in h.chain

  -- those that wait have other slots
  pub apart_in : (retired : Chain) (gone : List RetiredVersion) → AreRetired p retired gone → AreApart (retired_slots_of gone) (version_slots_of before ++ slot ∷ version_slots_of after)
  apart_in retired gone wait k in_gone in_row =
      owners_apart p (Reference r) (before ++ v ∷ after) gone (owned r) h.found wait.found k in_gone
      (subst (IsIn k) (sym slots_in) in_row)

  abbrev pub stored_in : (s : StoredVersion) × (get p.versions slot ≡ Some s) × (s.owner ≡ Reference r) × (s.number ≡ v.number) × (s.serial ≡ v.serial) × (s.content ≡ v.content)
  stored_in = version_at (Reference r) p row before v after slot here h

  pub live_in : IsLive p.versions slot
  live_in = set_live (get p.versions slot) stored_in.0 stored_in.1

  -- the version that is read there
  pub stored_is : (s : StoredVersion) → get p.versions slot ≡ Some s → stored_in.0 ≡ s
  stored_is s is = some_same stored_in.0 s (sym stored_in.1 ∙ is)

  pub owner_read : (s : StoredVersion) → get p.versions slot ≡ Some s → s.owner ≡ Reference r
  owner_read s is = ap (λ (x : StoredVersion). x.owner) (sym (stored_is s is)) ∙ stored_in.2

  pub number_read : (s : StoredVersion) → get p.versions slot ≡ Some s → s.number ≡ v.number
  number_read s is = ap (λ (x : StoredVersion). x.number) (sym (stored_is s is)) ∙ stored_in.3

  pub serial_read : (s : StoredVersion) → get p.versions slot ≡ Some s → s.serial ≡ v.serial
  serial_read s is = ap (λ (x : StoredVersion). x.serial) (sym (stored_is s is)) ∙ stored_in.4

  -- as many entries as it has, and as many slots
  pub count_in : (s : StoredVersion) → get p.versions slot ≡ Some s → s.content.count ≡ length v.placed
  count_in s is =
      let stands = all_here (HasContent p) before v after h.contents in
      ap (λ (x : StoredVersion). x.content.count) (sym (stored_is s is))
      ∙ ap (λ (x : Content). x.count) stored_in.5 ∙ stands.count

  pub slots_are : (s : StoredVersion) → get p.versions slot ≡ Some s → version_slots (shown_version v) ≡ 1 + s.content.count * (1 + length s.content.indexes.items)
  slots_are s is =
      let stands = all_here (HasContent p) before v after h.contents in
      let many = length-map v.placed (λ (x : PlacedEntry). x.entry) ∙ sym stands.count in
      let ways = length-map v.content.indexes.items way_of in
      let same = sym stored_in.5 ∙ ap (λ (x : StoredVersion). x.content) (stored_is s is) in
      ap (λ k. 1 + k * (1 + length (ways_of v.content.indexes.items))) many
      ∙ ap (λ k. 1 + v.content.count * (1 + k)) ways
      ∙ ap (λ (x : Content). 1 + x.count * (1 + length x.indexes.items)) same

  -- what calls answer of it
  pub number_answered : (k : ℕ) → ((s : StoredVersion) → get p.versions slot ≡ Some s → k ≡ s.number) → k ≡ v.number
  number_answered k is = is stored_in.0 stored_in.1 ∙ stored_in.3

  pub slots_answered : (k : ℕ) → ((s : StoredVersion) → get p.versions slot ≡ Some s → k ≡ 1 + s.content.count * (1 + length s.content.indexes.items)) → k ≡ version_slots (shown_version v)
  slots_answered k is = is stored_in.0 stored_in.1 ∙ sym (slots_are stored_in.0 stored_in.1)

  pub few_in : HasFewSlots v → (s : StoredVersion) → get p.versions slot ≡ Some s → s.content.count * (1 + length s.content.indexes.items) < 2 ^ 40
  few_in few s is =
      fewer_than (version_slots (shown_version v)) (s.content.count * (1 + length s.content.indexes.items)) (2 ^ 40) few (slots_are s is)
    where
      fewer_than : (a b c : ℕ) → a < c → a ≡ 1 + b → b < c
      fewer_than a b c less is = omega (arith, less, is)

-- a version that waits takes the slots that it took
pub waiting_as : (v : PlacedVersion) → slots_waiting (as_retired v) ≡ version_slots (shown_version v)
waiting_as v =
    ap (λ k. 1 + k) (whole_counted v.content v.placed)
    ∙ ap (λ k. 1 + k * (1 + length (ways_of v.content.indexes.items))) (sym (length-map v.placed (λ (x : PlacedEntry). x.entry)))

-- ---- the first version

pub record FirstVersion (vs : List PlacedVersion) (slot : ℕ) : Type 0 where
  pub version : PlacedVersion
  pub after : List PlacedVersion
  pub whole : vs ≡ version ∷ after
  pub here : version.slot ≡ slot

pub first_version : (vs : List PlacedVersion) (slot : ℕ) → Some slot ≡ first_or (version_slots_of vs) None → FirstVersion vs slot
first_version [] slot is = absurd (cc)
first_version (v ∷ vs) slot is =
    let same : v.slot ≡ slot = cc in record { version = v; after = vs; whole = refl; here = same }

pub no_version : (vs : List PlacedVersion) → None ≡ first_or (version_slots_of vs) None → vs ≡ []
no_version [] is = refl
no_version (v ∷ vs) is = absurd (cc)
