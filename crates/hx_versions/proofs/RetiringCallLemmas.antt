-- The calls that drop the first version of a row and that clear a version, from what their steps on
-- chains do.
use Rattle.std.proofs.Common.{◌≡◌, ◌≢◌, ℕ, ◌+◌, ◌<◌, ◌≤◌, List, [], ◌∷◌, ◌++◌, length, set, Some, None, All, refl, sym, subst, ◌∙◌, arith}
use Rattle.std.proofs.lemmas.List.Elements.{All-head}
use Rattle.hx_pool.specs.declared.chain.Chain.{Chain}
use Rattle.hx_pool.specs.Pool.{IsLive, get, live_count}
use Rattle.hx_pool.specs.Chain.{AreApart, LiesIn}
use Rattle.hx_versions.specs.declared.pools.Pools.{Pools}
use Rattle.hx_versions.specs.declared.pools.Row.{Row}
use Rattle.hx_versions.specs.declared.stored_version.Owner.TheVariants.{Reference, Retired}
use Rattle.hx_versions.specs.declared.stored_version.StoredVersion.{StoredVersion}
use Rattle.hx_versions.specs.StoredVersions.{version_links}
use Rattle.hx_versions.specs.Contents.{IsContent, ways_of}
use Rattle.hx_versions.specs.Rows.{version_slots}
use Rattle.hx_versions.specs.Store.{AreRetired, DropsFirst, HasFewSlots, IsCleared, IsRow, MovesVersion, PlacedVersion, PutsVersion, RetiredVersion, VersionPool, retired_slots_of, shown_version, version_slots_of}
use Rattle.hx_versions.proofs.ClearingLemmas.{cleared_leaves, cleared_row, cleared_wait, drops_first, joined}
use Rattle.hx_versions.proofs.PlaceLemmas.{FirstVersion, apart_in, lies_in, live_in, stored_in}
use Rattle.hx_versions.proofs.PlacingLemmas.{put_keeps, row_with}
use Rattle.hx_versions.proofs.RowLemmas.{waiting_frame}

retired_other : (r : ℕ) → Retired ≢ Reference r
retired_other r e = cc

-- ---- the first version is dropped

module _ (p : Pools) (r : ℕ) (row : Row) (vs : List PlacedVersion) (slot : ℕ) (f : FirstVersion vs slot) (h : IsRow p (Reference r) row vs) where
  pub first_row : IsRow p (Reference r) row ([] ++ f.version ∷ f.after)
  first_row = subst (IsRow p (Reference r) row) f.whole h

  pub first_few : All HasFewSlots vs → HasFewSlots f.version
  first_few few = All-head HasFewSlots f.version f.after (subst (All HasFewSlots) f.whole few)

  module _ (retired : Chain) (gone : List RetiredVersion) (wait : AreRetired p retired gone) where
    abbrev pub MovesFirst : VersionPool → Chain → Chain → Type 0
    MovesFirst new chain retired' = (xs ys those : List ℕ) (stored : StoredVersion) → get p.versions slot ≡ Some stored
        → LiesIn version_links p.versions row.versions (xs ++ slot ∷ ys)
        → LiesIn version_links p.versions retired those → AreApart those (xs ++ slot ∷ ys)
        → MovesVersion p.versions new chain retired' slot stored xs ys those

    pub first_drops : (new : VersionPool) (chain retired' : Chain) (number slots count : ℕ) (rows : List Row) → MovesFirst new chain retired' → count + 1 ≡ row.count → f.version.number < number → slots ≡ version_slots (shown_version f.version) → live_count new ≡ live_count p.versions → new.spare ≡ p.versions.spare → DropsFirst number (Some slots) p (record p { versions = new }) rows (set rows r (record { versions = chain; count = count })) r retired' vs gone
    first_drops new chain retired' number slots count rows moves fewer less many live spare =
        let q : Pools = record p { versions = new } in
        let row' : Row = record { versions = chain; count = count } in
        let at = stored_in p r row [] f.version f.after slot f.here first_row in
        let moved = moves [] (version_slots_of f.after) (retired_slots_of gone) at.0 at.1 (lies_in p r row [] f.version f.after slot f.here first_row) wait.lies (apart_in p r row [] f.version f.after slot f.here first_row retired gone wait) in
        subst (λ xs. DropsFirst number (Some slots) p q rows (set rows r row') r retired' xs gone) (sym f.whole)
        (drops_first number slots p new rows r row row' retired retired' f.version f.after gone at.0 first_row wait
        (subst (λ k. get p.versions k ≡ Some at.0) (sym f.here) at.1)
        (subst (λ k. MovesVersion p.versions new chain retired' k at.0 [] (version_slots_of f.after) (retired_slots_of gone)) (sym f.here) moved)
        fewer less many (record { versions = live; spare = spare; entries = refl; nodes = refl }))

-- there is none
pub none_empty : (number : ℕ) (old new : Pools) (rows rows' : List Row) (r : ℕ) (retired : Chain) (vs : List PlacedVersion) (gone : List RetiredVersion) → vs ≡ [] → DropsFirst number None old new rows rows' r retired vs gone
none_empty number old new rows rows' r retired [] gone e = tt
none_empty number old new rows rows' r retired (v ∷ vs) gone e = absurd (cc)

-- its number isn't smaller
pub none_smaller : (number : ℕ) (old new : Pools) (rows rows' : List Row) (r : ℕ) (retired : Chain) (vs : List PlacedVersion) (gone : List RetiredVersion) (slot : ℕ) (f : FirstVersion vs slot) → number ≤ f.version.number → DropsFirst number None old new rows rows' r retired vs gone
none_smaller number old new rows rows' r retired vs gone slot f most =
    subst (λ xs. DropsFirst number None old new rows rows' r retired xs gone) (sym f.whole) most

-- ---- a version is cleared

-- no version has entries and none
pub never_cleared : (slots : ℕ) (old new : Pools) (rows rows' : List Row) (r : ℕ) (retired : Chain) (before : List PlacedVersion) (v : PlacedVersion) (after : List PlacedVersion) (gone : List RetiredVersion) → length v.placed ≡ 0 → 0 < length v.placed → IsCleared slots old new rows rows' r retired before v after gone
never_cleared slots old new rows rows' r retired before v after gone none some =
    absurd (omega (arith, none, some))

module _ (p : Pools) (r : ℕ) (row : Row) (before : List PlacedVersion) (v : PlacedVersion) (after : List PlacedVersion) (slot : ℕ) (here : v.slot ≡ slot) (h : IsRow p (Reference r) row (before ++ v ∷ after)) (retired : Chain) (gone : List RetiredVersion) (wait : AreRetired p retired gone)
    (vs1 : VersionPool) (chain1 : Chain) (slot1 : ℕ) (new : StoredVersion)
    (puts : (xs ys : List ℕ) → LiesIn version_links p.versions row.versions (xs ++ slot ∷ ys) → PutsVersion p.versions vs1 chain1 slot1 new xs (slot ∷ ys))
    (owner_is : new.owner ≡ Reference r) (number_is : new.number ≡ v.number) (serial_is : new.serial ≡ v.serial)
    (content : IsContent p.entries p.nodes slot1 new.content []) where
  -- one without entries is put before it
  abbrev light : PlacedVersion
  light = record { slot = slot1; number = v.number; serial = v.serial; content = new.content; placed = [] }

  abbrev put_pools : Pools
  put_pools = record p { versions = vs1 }

  abbrev put_row : Row
  put_row = record { versions = chain1; count = row.count + 1 }

  put : PutsVersion p.versions vs1 chain1 slot1 new (version_slots_of before) (version_slots_of (v ∷ after))
  put =
      subst (λ k. PutsVersion p.versions vs1 chain1 slot1 new (version_slots_of before) (k ∷ version_slots_of after)) (sym here)
      (puts (version_slots_of before) (version_slots_of after) (lies_in p r row before v after slot here h))

  stands_put : IsRow put_pools (Reference r) put_row ((before ++ light ∷ []) ++ v ∷ after)
  stands_put =
      subst (IsRow put_pools (Reference r) put_row) (sym (joined before light (v ∷ after)))
      (row_with p vs1 (Reference r) row put_row before light (v ∷ after) new h put owner_is number_is serial_is refl content refl)

  waits_put : AreRetired put_pools retired gone
  waits_put =
      waiting_frame p put_pools (put_keeps p vs1 (Reference r) row put_row before light (v ∷ after) new h put Retired (retired_other r)) retired gone wait

  pub live_put : IsLive vs1 slot
  live_put = live_in put_pools r put_row (before ++ light ∷ []) v after slot here stands_put

  lies_put : LiesIn version_links vs1 chain1 (version_slots_of (before ++ light ∷ []) ++ slot ∷ version_slots_of after)
  lies_put = lies_in put_pools r put_row (before ++ light ∷ []) v after slot here stands_put

  apart_put : AreApart (retired_slots_of gone) (version_slots_of (before ++ light ∷ []) ++ slot ∷ version_slots_of after)
  apart_put = apart_in put_pools r put_row (before ++ light ∷ []) v after slot here stands_put retired gone waits_put

  -- what the move of the version asks of its chains
  pub chains_put : (xs : List ℕ) × (ys : List ℕ) × (those : List ℕ) × LiesIn version_links vs1 chain1 (xs ++ slot ∷ ys) × LiesIn version_links vs1 retired those × AreApart those (xs ++ slot ∷ ys)
  chains_put = (
    version_slots_of (before ++ light ∷ []),
    version_slots_of after,
    retired_slots_of gone,
    lies_put,
    waits_put.lies,
    apart_put,
  )

  -- and it is moved to those that wait
  module _ (vs2 : VersionPool) (chain2 retired2 : Chain)
      (moves : (xs ys those : List ℕ) (stored : StoredVersion) → get vs1 slot ≡ Some stored → LiesIn version_links vs1 chain1 (xs ++ slot ∷ ys) → LiesIn version_links vs1 retired those → AreApart those (xs ++ slot ∷ ys) → MovesVersion vs1 vs2 chain2 retired2 slot stored xs ys those) where
    abbrev at : (s : StoredVersion) × (get vs1 slot ≡ Some s) × (s.owner ≡ Reference r) × (s.number ≡ v.number) × (s.serial ≡ v.serial) × (s.content ≡ v.content)
    at = stored_in put_pools r put_row (before ++ light ∷ []) v after slot here stands_put

    abbrev cleared : Row
    cleared = record { versions = chain2; count = row.count }

    moved : MovesVersion vs1 vs2 chain2 retired2 v.slot at.0 (version_slots_of (before ++ light ∷ [])) (version_slots_of after) (retired_slots_of gone)
    moved =
        subst (λ k. MovesVersion vs1 vs2 chain2 retired2 k at.0 (version_slots_of (before ++ light ∷ [])) (version_slots_of after) (retired_slots_of gone)) (sym here)
        (moves (version_slots_of (before ++ light ∷ [])) (version_slots_of after) (retired_slots_of gone) at.0 at.1 lies_put waits_put.lies apart_put)

    was : get vs1 v.slot ≡ Some at.0
    was = subst (λ k. get vs1 k ≡ Some at.0) (sym here) at.1

    pub clears : (slots : ℕ) (rows : List Row) → slots ≡ version_slots (shown_version v) → ways_of new.content.indexes.items ≡ [] → live_count vs1 ≡ live_count p.versions + 1 → live_count vs2 ≡ live_count vs1 → vs1.spare + 1 ≡ p.versions.spare → vs2.spare ≡ vs1.spare → IsCleared slots p (record p { versions = vs2 }) rows (set rows r (record { versions = chain2; count = row.count })) r retired2 before v after gone
    clears slots rows many ways live1 live2 spare1 spare2 = record {
      row = cleared;
      light = light;
      is_light = record { number = refl; serial = refl; none = refl; ways = ways };
      slots = many;
      rows_are = refl;
      stands = cleared_row p vs1 vs2 r row put_row cleared retired retired2 before light v after gone new at.0 h wait put owner_is number_is serial_is refl content refl was moved refl;
      wait = cleared_wait p vs1 vs2 r row put_row cleared retired retired2 before light v after gone new at.0 h wait put owner_is number_is serial_is refl content refl was moved refl;
      leaves = cleared_leaves p vs1 vs2 r row put_row cleared retired retired2 before light v after gone new at.0 h wait put owner_is number_is serial_is refl content refl was moved refl;
      versions = live2 ∙ live1;
      spare = omega (arith, spare1, spare2);
      entries = refl;
      nodes = refl;
    }
