-- Versions that are dropped and cleared.
use Rattle.std.proofs.Common.{◌≡◌, ◌≢◌, ℕ, suc, ◌+◌, ◌<◌, List, [], ◌∷◌, ◌++◌, length, map, set, Option, Some, All, refl, sym, ap, subst, ◌∙◌, arith}
use Rattle.hx_pool.specs.declared.chain.Chain.{Chain}
use Rattle.hx_pool.specs.Pool.{get, live_count}
use Rattle.hx_versions.specs.declared.pools.Pools.{Pools}
use Rattle.hx_versions.specs.declared.pools.Row.{Row}
use Rattle.hx_versions.specs.declared.stored_version.Owner.{Owner}
use Rattle.hx_versions.specs.declared.stored_version.Owner.TheVariants.{Reference, Retired}
use Rattle.hx_versions.specs.declared.stored_version.StoredVersion.{StoredVersion}
use Rattle.hx_versions.specs.Rows.{version_slots}
use Rattle.hx_versions.specs.Store.{AreRetired, DropsFirst, HasContent, HasSameCounts, IsCleared, IsLight, IsRow, LeavesRows, MovesVersion, PlacedVersion, PutsVersion, RetiredVersion, VersionPool, as_retired, retired_slots_of, shown_version, version_slots_of}
use Rattle.hx_versions.proofs.MovingLemmas.{move_keeps, row_without, waits_with}
use Rattle.hx_versions.proofs.PlacingLemmas.{put_keeps, row_with}
use Rattle.hx_versions.proofs.RowLemmas.{keeps_versions_on, waiting_frame}

owned : (r : ℕ) → Reference r ≢ Retired
owned r e = cc

retired_other : (r : ℕ) → Retired ≢ Reference r
retired_other r e = cc

-- the first version is dropped
pub drops_first : (number slots : ℕ) (p : Pools) (new : VersionPool) (rows : List Row) (r : ℕ) (row row' : Row) (retired retired' : Chain) (v : PlacedVersion) (after : List PlacedVersion) (gone : List RetiredVersion) (stored : StoredVersion) → IsRow p (Reference r) row (v ∷ after) → AreRetired p retired gone → get p.versions v.slot ≡ Some stored → MovesVersion p.versions new row'.versions retired' v.slot stored [] (version_slots_of after) (retired_slots_of gone) → row'.count + 1 ≡ row.count → v.number < number → slots ≡ version_slots (shown_version v) → HasSameCounts p (record p { versions = new }) → DropsFirst number (Some slots) p (record p { versions = new }) rows (set rows r row') r retired' (v ∷ after) gone
drops_first number slots p new rows r row row' retired retired' v after gone stored h wait is moved count less many counts = (
  row',
  v,
  after,
  refl,
  less,
  many,
  refl,
  row_without p new (Reference r) row row' retired retired' [] v after gone stored (owned r) h wait is moved count,
  waits_with p new (Reference r) row row' retired retired' [] v after gone stored (owned r) h wait is moved,
  λ theirs differs waits. move_keeps p new (Reference r) row row' retired retired' [] v after gone stored (owned r) h wait is moved theirs differs waits,
  counts,
)

-- ---- a version is cleared

pub joined : (xs : List PlacedVersion) (y : PlacedVersion) (zs : List PlacedVersion) → (xs ++ y ∷ []) ++ zs ≡ xs ++ y ∷ zs
joined [] y zs = refl
joined (x ∷ xs) y zs = ap (λ l. x ∷ l) (joined xs y zs)

module _ (p : Pools) (vs1 vs2 : VersionPool) (r : ℕ) (row row1 row2 : Row) (retired retired2 : Chain) (before : List PlacedVersion) (light v : PlacedVersion) (after : List PlacedVersion) (gone : List RetiredVersion) (new stored1 : StoredVersion)
    (h : IsRow p (Reference r) row (before ++ v ∷ after)) (wait : AreRetired p retired gone)
    (put : PutsVersion p.versions vs1 row1.versions light.slot new (version_slots_of before) (version_slots_of (v ∷ after)))
    (owner_is : new.owner ≡ Reference r) (number_is : new.number ≡ light.number) (serial_is : new.serial ≡ light.serial) (content_is : new.content ≡ light.content) (content : HasContent p light) (count1 : row1.count ≡ row.count + 1)
    (is : get vs1 v.slot ≡ Some stored1)
    (moved : MovesVersion vs1 vs2 row2.versions retired2 v.slot stored1 (version_slots_of (before ++ light ∷ [])) (version_slots_of after) (retired_slots_of gone)) (count2 : row2.count ≡ row.count) where
  abbrev p1 : Pools
  p1 = record p { versions = vs1 }

  abbrev p2 : Pools
  p2 = record p { versions = vs2 }

  row_put : IsRow p1 (Reference r) row1 ((before ++ light ∷ []) ++ v ∷ after)
  row_put =
      subst (IsRow p1 (Reference r) row1) (sym (joined before light (v ∷ after)))
      (row_with p vs1 (Reference r) row row1 before light (v ∷ after) new h put owner_is number_is serial_is content_is content count1)

  wait_put : AreRetired p1 retired gone
  wait_put = waiting_frame p p1 (put_keeps p vs1 (Reference r) row row1 before light (v ∷ after) new h put Retired (retired_other r)) retired gone wait

  pub cleared_row : IsRow p2 (Reference r) row2 (before ++ light ∷ after)
  cleared_row =
      subst (IsRow p2 (Reference r) row2) (joined before light after)
      (row_without p1 vs2 (Reference r) row1 row2 retired retired2 (before ++ light ∷ []) v after gone stored1 (owned r) row_put wait_put is moved (omega (arith, count1, count2)))

  pub cleared_wait : AreRetired p2 retired2 (gone ++ as_retired v ∷ [])
  cleared_wait = waits_with p1 vs2 (Reference r) row1 row2 retired retired2 (before ++ light ∷ []) v after gone stored1 (owned r) row_put wait_put is moved

  pub cleared_leaves : LeavesRows r p p2
  cleared_leaves theirs differs waits =
      keeps_versions_on theirs p p1 p2
      (put_keeps p vs1 (Reference r) row row1 before light (v ∷ after) new h put theirs differs)
      (move_keeps p1 vs2 (Reference r) row1 row2 retired retired2 (before ++ light ∷ []) v after gone stored1 (owned r) row_put wait_put is moved theirs differs waits)
