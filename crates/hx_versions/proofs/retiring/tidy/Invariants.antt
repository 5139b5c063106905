use Rattle.std.proofs.Common.{◌≡◌, ◌≢◌, ℕ, ◌+◌, ◌-◌, ◌≤◌, List}
use Rattle.hx_pool.specs.Pool.{live_count}
use Rattle.hx_versions.specs.declared.stored_version.Owner.{Owner}
use Rattle.hx_versions.specs.declared.stored_version.Owner.TheVariants.{Retired}
use Rattle.hx_versions.specs.Store.{AreRetired, GivesSlots, KeepsVersions, RetiredVersion, waiting_slots}
use Rattle.hx_versions.proofs.retiring.tidy.Given as goal

abbrev pub invariant-loop-left : goal.invariant-loop-left
invariant-loop-left g l = record {
  most : l.left ≤ l.n;
  wait : (gone : List RetiredVersion) → AreRetired l.fn.pools l.fn.retired gone
      → (rest : List RetiredVersion) × AreRetired l.pools l.retired rest
      × (waiting_slots rest + (l.n - l.left) ≡ waiting_slots gone);
  others : (owner : Owner) → owner ≢ Retired → KeepsVersions owner l.fn.pools l.pools;
  spare : l.fn.pools.versions.spare ≤ l.pools.versions.spare;
  given : GivesSlots (l.n - l.left) l.fn.pools l.pools;
}

abbrev pub decreases-loop-left : goal.decreases-loop-left
decreases-loop-left g l = l.left
