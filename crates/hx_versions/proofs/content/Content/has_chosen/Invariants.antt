use Rattle.std.proofs.Common.{ℕ, List}
use Rattle.hx_versions.specs.Contents.{IsContent, PlacedEntry}
use Rattle.hx_versions.specs.Versions.{is_chosen}
use Rattle.hx_versions.proofs.ReachLemmas.{Reaches}
use Rattle.hx_versions.proofs.WalkLemmas.{AnyLeft}
use Rattle.hx_versions.proofs.content.Content.has_chosen.Given as goal

abbrev pub invariant-loop-passed : goal.invariant-loop-passed
invariant-loop-passed g l = (version : ℕ) (placed : List PlacedEntry)
    → IsContent l.entries l.nodes version l.self placed
    → Reaches (AnyLeft (is_chosen l.choice) placed) l.way (is_chosen l.choice) placed l.at l._passed
