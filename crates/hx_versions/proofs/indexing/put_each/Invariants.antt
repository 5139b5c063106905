use Rattle.std.proofs.Common.{◌≡◌, ℕ, ◌+◌, ◌++◌, List, length}
use Rattle.hx_pool.specs.Pool.{live_count}
use Rattle.hx_match.specs.Patterns.{PatternText}
use Rattle.hx_versions.specs.Contents.{AreItemsOfVersion, EntryPool, IsOfVersion, LeavesNodes, Listing, StandIn, ways_of}
use Rattle.hx_versions.specs.NewEntries.{prepared_patterns}
use Rattle.hx_versions.proofs.PuttingLemmas.{partly_with}
use Rattle.hx_versions.proofs.indexing.put_each.Given as goal

abbrev pub invariant-loop-key : goal.invariant-loop-key
invariant-loop-key g l = record {
  left : (gone : List PatternText) × (l.fn.prepared.items ≡ l.left.items ++ gone);
  numbers : length l.numbers ≡ length l.fn.numbers;
  ways : ways_of l.indexes.items ≡ ways_of l.fn.indexes.items;
  spare : l.nodes.spare + length l.fn.indexes.items ≡ l.fn.nodes.spare + length l.left.items;
  live : live_count l.nodes + length l.left.items ≡ live_count l.fn.nodes + length l.fn.indexes.items;
  stand : (items : Listing) (key : List ℕ)
      → StandIn l.fn.nodes l.fn.indexes.items items
      → l.fn.prepared.items ≡ prepared_patterns key (ways_of l.fn.indexes.items)
      → StandIn l.nodes l.indexes.items (partly_with l.slot key l.numbers (length l.left.items) items);
  others : (items : Listing) (entries : EntryPool) (version : ℕ)
      → StandIn l.fn.nodes l.fn.indexes.items items
      → AreItemsOfVersion entries version (ways_of l.fn.indexes.items) items
      → IsOfVersion entries version l.slot
      → LeavesNodes entries version l.fn.nodes l.nodes;
}

abbrev pub decreases-loop-key : goal.decreases-loop-key
decreases-loop-key g l = length l.left.items
