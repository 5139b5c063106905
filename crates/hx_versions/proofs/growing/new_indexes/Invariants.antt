use Rattle.std.proofs.Common.{◌≡◌, ◌++◌, length}
use Rattle.hx_versions.specs.Contents.{ways_of}
use Rattle.hx_versions.specs.Rows.{use_ways}
use Rattle.hx_versions.specs.Store.{AreBare}
use Rattle.hx_versions.proofs.growing.new_indexes.Given as goal

abbrev pub invariant-loop-rest : goal.invariant-loop-rest
invariant-loop-rest l = record {
  ways : ways_of l.indexes.items ++ use_ways l.rest ≡ use_ways l.uses;
  bare : AreBare l.indexes.items;
}

abbrev pub decreases-loop-rest : goal.decreases-loop-rest
decreases-loop-rest l = length l.rest
