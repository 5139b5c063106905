use Rattle.std.proofs.Common.{List, length}
use Rattle.hx_pool.specs.Chain.{links_at}
use Rattle.hx_versions.specs.declared.stored_version.Owner.{Owner}
use Rattle.hx_versions.specs.StoredVersions.{version_links}
use Rattle.hx_versions.specs.Store.{IsRow, PlacedVersion}
use Rattle.hx_index.proofs.WalkLemmas.{chain_left}
use Rattle.hx_versions.proofs.VersionWalkLemmas.{WalksTo}
use Rattle.hx_versions.proofs.placing.place_of.Given as goal

abbrev pub invariant-loop-at : goal.invariant-loop-at
invariant-loop-at g l = (owner : Owner) (vs : List PlacedVersion) → IsRow l.pools owner l.row vs
    → WalksTo l.number vs l.at

abbrev pub decreases-loop-at : goal.decreases-loop-at
decreases-loop-at g l = chain_left (links_at version_links l.pools.versions) (length l.pools.versions.slots) l.at
