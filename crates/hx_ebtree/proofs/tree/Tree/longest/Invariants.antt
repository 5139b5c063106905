use Rattle.std.proofs.Common.{◌+◌, ◌-◌, ◌*◌, ◌≤◌}
use Rattle.hx_ebtree.specs.Bits.{bits_of}
use Rattle.hx_ebtree.specs.KeyList.{KeyList}
use Rattle.hx_ebtree.specs.Tree.{leaves_of, forks_of, Stands}
use Rattle.hx_ebtree.proofs.LongestSteps.{IsOnWay}
use Rattle.hx_ebtree.proofs.tree.Tree.longest.Given as goal

abbrev pub invariant-loop-at : goal.invariant-loop-at
invariant-loop-at g l = record {
  reached : (pairs : KeyList) → Stands l.pool l.self pairs → IsOnWay (leaves_of l.pool) (forks_of l.pool) pairs (bits_of l.key l.bits) l.at l.depth l.checked l.best;
  checked : l.checked ≤ l.depth;
  depth : l.depth ≤ 2 * l.bits + 1;
  cost : l.steps ≤ l.fn.steps + l.depth;
}

abbrev pub decreases-loop-at : goal.decreases-loop-at
decreases-loop-at g l = 2 * l.bits + 1 - l.depth
