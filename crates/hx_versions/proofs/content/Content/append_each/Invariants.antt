use Rattle.std.proofs.Common.{◌≡◌, ◌+◌, ◌*◌, List, length}
use Rattle.hx_pool.specs.Pool.{live_count}
use Rattle.hx_versions.specs.Contents.{IsContent, LeavesOthers, PlacedEntry, ways_of}
use Rattle.hx_versions.specs.NewEntries.{AreReadyFor}
use Rattle.hx_versions.proofs.AppendingLemmas.{Appended}
use Rattle.hx_versions.proofs.content.Content.append_each.Given as goal

abbrev pub invariant-loop-new : goal.invariant-loop-new
invariant-loop-new g l =
    let many = length l.fn.self.indexes.items in
    record {
      content : (placed : List PlacedEntry) → IsContent l.fn.entries l.fn.nodes l.version l.fn.self placed
          → Appended l.entries l.nodes l.version l.self placed l.fn.added.items l.left.items;
      others : LeavesOthers l.version l.fn.entries l.entries l.fn.nodes l.nodes;
      ways : ways_of l.self.indexes.items ≡ ways_of l.fn.self.indexes.items;
      ready : AreReadyFor (ways_of l.fn.self.indexes.items) l.left.items;
      count : l.self.count + length l.left.items ≡ l.fn.self.count + length l.fn.added.items;
      spare_entries : l.entries.spare + length l.fn.added.items ≡ l.fn.entries.spare + length l.left.items;
      spare_nodes : l.nodes.spare + length l.fn.added.items * many ≡ l.fn.nodes.spare + length l.left.items * many;
      live_entries : live_count l.entries + length l.left.items ≡ live_count l.fn.entries + length l.fn.added.items;
      live_nodes : live_count l.nodes + length l.left.items * many ≡ live_count l.fn.nodes + length l.fn.added.items * many;
    }

abbrev pub decreases-loop-new : goal.decreases-loop-new
decreases-loop-new g l = length l.left.items
