use Rattle.std.proofs.Common.{ℕ, List}
use Rattle.hx_versions.specs.Contents.{IsContent, PlacedEntry}
use Rattle.hx_versions.specs.Versions.{is_chosen}
use Rattle.hx_versions.proofs.ReachLemmas.{Reaches}
use Rattle.hx_versions.proofs.ValueWalkLemmas.{CopiesLeft}
use Rattle.hx_versions.proofs.content.Content.copies_for.Given as goal

abbrev pub invariant-loop-passed : goal.invariant-loop-passed
invariant-loop-passed g l = (version : ℕ) (placed : List PlacedEntry)
    → IsContent l.entries l.nodes version l.self placed
    → Reaches (CopiesLeft (is_chosen l.choice) l.value placed l.copies.items) l.way
    (is_chosen l.choice) placed l.at l._passed
