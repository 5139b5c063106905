use Rattle.std.proofs.Common.{◌≡◌, ℕ, ◌+◌, ◌*◌, ◌≤◌, List, length}
use Rattle.hx_pool.specs.Pool.{live_count}
use Rattle.hx_versions.specs.Contents.{IsContent, LeavesOthers, PlacedEntry, ways_of}
use Rattle.hx_versions.specs.Versions.{is_chosen}
use Rattle.hx_versions.proofs.ReachLemmas.{Reaches}
use Rattle.hx_versions.proofs.WalkLemmas.{OthersLeft}
use Rattle.hx_versions.proofs.content.Content.delete_chosen.Given as goal

abbrev pub invariant-loop-passed : goal.invariant-loop-passed
invariant-loop-passed g l = record {
  walk : (version : ℕ) (placed : List PlacedEntry)
      → IsContent l.fn.entries l.fn.nodes version l.fn.self placed
      → Reaches (OthersLeft (is_chosen l.choice) l.entries l.nodes version l.self) l.way
      (is_chosen l.choice) placed l.at l._passed;
  others : (version : ℕ) (placed : List PlacedEntry)
      → IsContent l.fn.entries l.fn.nodes version l.fn.self placed
      → LeavesOthers version l.fn.entries l.entries l.fn.nodes l.nodes;
  ways : ways_of l.self.indexes.items ≡ ways_of l.fn.self.indexes.items;
  count : l.self.count ≤ l.fn.self.count;
  live_entries : live_count l.entries + l.fn.self.count ≡ live_count l.fn.entries + l.self.count;
  live_nodes : live_count l.nodes + l.fn.self.count * length l.fn.self.indexes.items
      ≡ live_count l.fn.nodes + l.self.count * length l.fn.self.indexes.items;
}
