use Rattle.std.proofs.Common.{◌≡◌, ℕ, ◌+◌}
use Rattle.hx_pool.specs.Pool.{live_count}
use Rattle.hx_versions.specs.Contents.{AreItemsOfVersion, AreNodes, EntryPool, LeavesNodes, Listing, StandIn, ways_of}
use Rattle.hx_versions.proofs.DroppingLemmas.{partly_without}
use Rattle.hx_versions.proofs.indexing.drop_each.Given as goal

abbrev pub invariant-loop-at : goal.invariant-loop-at
invariant-loop-at g l = record {
  ways : ways_of l.indexes.items ≡ ways_of l.fn.indexes.items;
  spare : l.nodes.spare ≡ l.fn.nodes.spare + l.at;
  live : live_count l.nodes + l.at ≡ live_count l.fn.nodes;
  stand : (items : Listing) → StandIn l.fn.nodes l.fn.indexes.items items
      → AreNodes (ways_of l.fn.indexes.items) l.numbers items
      → StandIn l.nodes l.indexes.items (partly_without l.numbers l.at items);
  others : (items : Listing) (entries : EntryPool) (version : ℕ)
      → StandIn l.fn.nodes l.fn.indexes.items items
      → AreNodes (ways_of l.fn.indexes.items) l.numbers items
      → AreItemsOfVersion entries version (ways_of l.fn.indexes.items) items
      → LeavesNodes entries version l.fn.nodes l.nodes;
}
