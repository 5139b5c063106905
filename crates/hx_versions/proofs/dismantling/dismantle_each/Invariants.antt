use Rattle.std.proofs.Common.{◌≡◌, ℕ, ◌+◌, ◌≤◌, List, All, length}
use Rattle.hx_pool.specs.Pool.{live_count}
use Rattle.hx_index.specs.Items.{Item}
use Rattle.hx_versions.specs.Contents.{EntryPool, IsOfVersion, LeavesNodes, StandIn, remaining_items, ways_of}
use Rattle.hx_versions.proofs.DismantlingLemmas.{Dismantled}
use Rattle.hx_versions.proofs.dismantling.dismantle_each.Given as goal

abbrev pub invariant-loop-at : goal.invariant-loop-at
invariant-loop-at g l = record {
  ways : ways_of l.indexes.items ≡ ways_of l.fn.indexes.items;
  most : l.given ≤ l.n;
  live : live_count l.nodes + l.given ≡ live_count l.fn.nodes;
  stand : (lists : List (List Item)) → length lists ≡ length l.fn.indexes.items
      → StandIn l.fn.nodes l.fn.indexes.items (remaining_items lists)
      → (left : List (List Item)) × Dismantled l.n l.given l.at l.nodes l.indexes.items lists left;
  others : (lists : List (List Item)) (entries : EntryPool) (version : ℕ)
      → length lists ≡ length l.fn.indexes.items
      → StandIn l.fn.nodes l.fn.indexes.items (remaining_items lists)
      → All (All (λ (item : Item). IsOfVersion entries version item.entry)) lists
      → LeavesNodes entries version l.fn.nodes l.nodes;
}
