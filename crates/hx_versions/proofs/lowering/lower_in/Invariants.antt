use Rattle.std.proofs.Common.{◌≢◌, List}
use Rattle.hx_versions.specs.declared.stored_version.Owner.{Owner}
use Rattle.hx_versions.specs.Store.{HasSameCounts, IsRow, KeepsVersions, PlacedVersion}
use Rattle.hx_versions.proofs.LoweringLemmas.{LowersPassed}
use Rattle.hx_versions.proofs.lowering.lower_in.Given as goal

abbrev pub invariant-loop-passed : goal.invariant-loop-passed
invariant-loop-passed g l = record {
  lowered : (owner : Owner) (vs : List PlacedVersion) → IsRow l.fn.pools owner l.row vs
      → LowersPassed l.by l.pools owner l.row vs l.at l._passed;
  others : (owner : Owner) (vs : List PlacedVersion) → IsRow l.fn.pools owner l.row vs
      → (theirs : Owner) → theirs ≢ owner → KeepsVersions theirs l.fn.pools l.pools;
  counts : HasSameCounts l.fn.pools l.pools;
}
