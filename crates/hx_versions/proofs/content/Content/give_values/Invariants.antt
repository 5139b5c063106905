use Rattle.std.proofs.Common.{◌≡◌, ℕ, List}
use Rattle.hx_pool.specs.Pool.{live_count}
use Rattle.hx_versions.specs.Contents.{AreCopies, IsContent, LeavesOthers, PlacedEntry}
use Rattle.hx_versions.specs.Versions.{is_chosen}
use Rattle.hx_versions.proofs.ReachLemmas.{Reaches}
use Rattle.hx_versions.proofs.ValueWalkLemmas.{ValuesLeft}
use Rattle.hx_versions.proofs.content.Content.give_values.Given as goal

abbrev pub invariant-loop-passed : goal.invariant-loop-passed
invariant-loop-passed g l =
    let test = is_chosen l.choice in
    record {
      walk : (version : ℕ) (placed : List PlacedEntry) (value : List ℕ)
          → IsContent l.fn.entries l.nodes version l.self placed
          → AreCopies test placed value l.fn.values.items
          → Reaches (ValuesLeft test value l.entries l.nodes version l.self l.values.items) l.way
          test placed l.at l._passed;
      others : (version : ℕ) (placed : List PlacedEntry) (value : List ℕ)
          → IsContent l.fn.entries l.nodes version l.self placed
          → AreCopies test placed value l.fn.values.items
          → LeavesOthers version l.fn.entries l.entries l.nodes l.nodes;
      spare : l.entries.spare ≡ l.fn.entries.spare;
      live : live_count l.entries ≡ live_count l.fn.entries;
    }
