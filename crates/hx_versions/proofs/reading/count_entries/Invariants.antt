use Rattle.std.proofs.Common.{◌+◌, ◌*◌, ◌^◌, ◌≤◌, List}
use Rattle.hx_versions.specs.declared.stored_version.Owner.{Owner}
use Rattle.hx_versions.specs.Store.{IsRow, PlacedVersion}
use Rattle.hx_versions.proofs.CountWalkLemmas.{CountsPassed}
use Rattle.hx_versions.proofs.reading.count_entries.Given as goal

abbrev pub invariant-loop-passed : goal.invariant-loop-passed
invariant-loop-passed g l = record {
  few : l.count + l._passed ≤ l._passed * 2 ^ 32;
  counted : (owner : Owner) (vs : List PlacedVersion) → IsRow l.pools owner l.row vs
      → CountsPassed vs l.at l._passed l.count;
}
