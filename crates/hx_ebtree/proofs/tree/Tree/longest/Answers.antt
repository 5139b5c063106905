use Rattle.std.proofs.Common.{◌≡◌, ◌∙◌, None, sym, arith}
use Rattle.hx_ebtree.specs.declared.node.Down.TheVariants.{Leaf, Branch}
use Rattle.hx_ebtree.specs.Bits.{bits_of}
use Rattle.hx_ebtree.specs.Tree.{leaves_of, forks_of}
use Rattle.hx_ebtree.proofs.ExactLemmas.{leaf_lives, fork_lives, fork_is_there}
use Rattle.hx_ebtree.proofs.LongestLemmas.{longest_is}
use Rattle.hx_ebtree.proofs.LongestSteps.{IsOnWay, way_start, way_none}
use Rattle.hx_ebtree.proofs.LongestReads.{leaf_in_common, leaf_ends, fork_below, fork_is_short, fork_passes, fork_in_common, fork_splits, fork_has_key}
use Rattle.hx_ebtree.proofs.tree.Tree.longest.Goals as goal

pub returns-in-None-clause-found : goal.returns-in-None-clause-found
returns-in-None-clause-found g c pairs stands =
    longest_is pairs (bits_of c.args.key.now c.args.bits) None
    (way_none (leaves_of c.args.pool.now) (forks_of c.args.pool.now) c.args.self.now.root pairs (bits_of c.args.key.now c.args.bits) stands.shape c.in-None.is stands.stands)

pub loop-at-init : goal.loop-at-init
loop-at-init g c = record {
  reached = λ pairs stands. way_start (leaves_of c.args.pool.now) (forks_of c.args.pool.now) c.args.self.now.root pairs (bits_of c.args.key.now c.args.bits) stands.shape c.in-Some.down c.in-Some.is stands.stands;
  checked = omega arith;
  depth = omega arith;
  cost = omega arith;
}

pub get-node-requires : goal.get-node-requires
get-node-requires g c =
    let s = c.requires.stands in
    let w : IsOnWay (leaves_of c.args.pool.now) (forks_of c.args.pool.now) s.0 (bits_of c.args.key.now c.args.bits) (Leaf c.in-Leaf.id) c.loop-at.depth c.loop-at.checked c.loop-at.best = rw c.in-Leaf.is at (c.loop-at.invariant.reached s.0 s.1) in
    leaf_lives c.args.pool.now w.up w.here c.in-Leaf.id w.hangs

pub split-found-requires-clause-from : goal.split-found-requires-clause-from
split-found-requires-clause-from g c =
    let s = c.requires.stands in
    let w : IsOnWay (leaves_of c.args.pool.now) (forks_of c.args.pool.now) s.0 (bits_of c.args.key.now c.args.bits) (Leaf c.in-Leaf.id) c.loop-at.depth c.loop-at.checked c.loop-at.best = rw c.in-Leaf.is at (c.loop-at.invariant.reached s.0 s.1) in
    leaf_in_common c.args.pool.now s.0 c.args.key.now c.args.bits c.in-Leaf.id c.loop-at.depth c.loop-at.checked c.loop-at.best c.get-node.result.now c.get-node.ensures.value w c.bytes.result.now c.len.result c.bytes.ensures.bits c.len.ensures

pub returns-in-Leaf-clause-found : goal.returns-in-Leaf-clause-found
returns-in-Leaf-clause-found g c pairs stands =
    let w : IsOnWay (leaves_of c.args.pool.now) (forks_of c.args.pool.now) pairs (bits_of c.args.key.now c.args.bits) (Leaf c.in-Leaf.id) c.loop-at.depth c.loop-at.checked c.loop-at.best = rw c.in-Leaf.is at (c.loop-at.invariant.reached pairs stands) in
    leaf_ends c.args.pool.now pairs c.args.key.now c.args.bits c.in-Leaf.id c.loop-at.depth c.loop-at.checked c.loop-at.best c.get-node.result.now c.get-node.ensures.value w c.bytes.result.now c.len.result c.bytes.ensures.bits c.len.ensures c.len-in-Leaf.result c.split-found.result c.leaf_longest.result c.len-in-Leaf.ensures c.split-found.ensures c.leaf_longest.ensures

pub get-node-requires-in-Branch : goal.get-node-requires-in-Branch
get-node-requires-in-Branch g c =
    let s = c.requires.stands in
    let w : IsOnWay (leaves_of c.args.pool.now) (forks_of c.args.pool.now) s.0 (bits_of c.args.key.now c.args.bits) (Branch c.in-Branch.id) c.loop-at.depth c.loop-at.checked c.loop-at.best = rw c.in-Branch.is at (c.loop-at.invariant.reached s.0 s.1) in
    fork_lives c.args.pool.now w.up w.here c.in-Branch.id w.hangs

pub unreachable-requires : goal.unreachable-requires
unreachable-requires g c =
    let s = c.requires.stands in
    let w : IsOnWay (leaves_of c.args.pool.now) (forks_of c.args.pool.now) s.0 (bits_of c.args.key.now c.args.bits) (Branch c.in-Branch.id) c.loop-at.depth c.loop-at.checked c.loop-at.best = rw c.in-Branch.is at (c.loop-at.invariant.reached s.0 s.1) in
    fork_is_there c.args.pool.now w.up w.here c.in-Branch.id c.get-node-in-Branch.result.now c.get-node-in-Branch.ensures.value c.in-None-branch.is w.hangs

pub returns-then-limit-bits-clause-found : goal.returns-then-limit-bits-clause-found
returns-then-limit-bits-clause-found g c pairs stands =
    let limit_is : c.from-limit.result ≡ c.in-Some-branch.branch.bit = c.from-limit.ensures in
    let past = c.if-limit-bits.true in
    let w : IsOnWay (leaves_of c.args.pool.now) (forks_of c.args.pool.now) pairs (bits_of c.args.key.now c.args.bits) (Branch c.in-Branch.id) c.loop-at.depth c.loop-at.checked c.loop-at.best = rw c.in-Branch.is at (c.loop-at.invariant.reached pairs stands) in
    fork_is_short c.args.pool.now pairs c.args.key.now c.args.bits c.in-Branch.id c.loop-at.depth c.loop-at.checked c.loop-at.best c.get-node-in-Branch.result.now c.get-node-in-Branch.ensures.value w c.in-Some-branch.branch c.in-Some-branch.is (omega arith)

pub loop-at-preserved-in-None-ending : goal.loop-at-preserved-in-None-ending
loop-at-preserved-in-None-ending g c =
    let s = c.requires.stands in
    let limit_is : c.from-limit.result ≡ c.in-Some-branch.branch.bit = c.from-limit.ensures in
    let inside = c.if-limit-bits.false in
    let w : IsOnWay (leaves_of c.args.pool.now) (forks_of c.args.pool.now) s.0 (bits_of c.args.key.now c.args.bits) (Branch c.in-Branch.id) c.loop-at.depth c.loop-at.checked c.loop-at.best = rw c.in-Branch.is at (c.loop-at.invariant.reached s.0 s.1) in
    let deep = fork_below c.args.pool.now s.0 c.args.key.now c.args.bits c.in-Branch.id c.loop-at.depth c.loop-at.checked c.loop-at.best c.get-node-in-Branch.result.now c.get-node-in-Branch.ensures.value w c.in-Some-branch.branch c.in-Some-branch.is in
    record {
      reached = λ pairs stands.
          let w : IsOnWay (leaves_of c.args.pool.now) (forks_of c.args.pool.now) pairs (bits_of c.args.key.now c.args.bits) (Branch c.in-Branch.id) c.loop-at.depth c.loop-at.checked c.loop-at.best = rw c.in-Branch.is at (c.loop-at.invariant.reached pairs stands) in
          rw (c.side-at.ensures, limit_is) (fork_passes c.args.pool.now pairs c.args.key.now c.args.bits c.in-Branch.id c.loop-at.depth c.loop-at.checked c.loop-at.best c.get-node-in-Branch.result.now c.get-node-in-Branch.ensures.value w c.in-Some-branch.branch c.in-Some-branch.is c.code_bit-right.result (rw limit_is at c.code_bit-right.ensures) (sym c.ending.ensures ∙ c.in-None-ending.is));
      checked = omega arith;
      depth = omega arith;
      cost = omega arith;
    }

pub loop-at-smaller-in-None-ending : goal.loop-at-smaller-in-None-ending
loop-at-smaller-in-None-ending g c =
    let s = c.requires.stands in
    let limit_is : c.from-limit.result ≡ c.in-Some-branch.branch.bit = c.from-limit.ensures in
    let inside = c.if-limit-bits.false in
    let w : IsOnWay (leaves_of c.args.pool.now) (forks_of c.args.pool.now) s.0 (bits_of c.args.key.now c.args.bits) (Branch c.in-Branch.id) c.loop-at.depth c.loop-at.checked c.loop-at.best = rw c.in-Branch.is at (c.loop-at.invariant.reached s.0 s.1) in
    let deep = fork_below c.args.pool.now s.0 c.args.key.now c.args.bits c.in-Branch.id c.loop-at.depth c.loop-at.checked c.loop-at.best c.get-node-in-Branch.result.now c.get-node-in-Branch.ensures.value w c.in-Some-branch.branch c.in-Some-branch.is in
    omega arith

pub split_before-requires-clause-from : goal.split_before-requires-clause-from
split_before-requires-clause-from g c =
    let s = c.requires.stands in
    let w : IsOnWay (leaves_of c.args.pool.now) (forks_of c.args.pool.now) s.0 (bits_of c.args.key.now c.args.bits) (Branch c.in-Branch.id) c.loop-at.depth c.loop-at.checked c.loop-at.best = rw c.in-Branch.is at (c.loop-at.invariant.reached s.0 s.1) in
    fork_in_common c.args.pool.now s.0 c.args.key.now c.args.bits c.in-Branch.id c.loop-at.depth c.loop-at.checked c.loop-at.best c.get-node-in-Branch.result.now c.get-node-in-Branch.ensures.value w c.in-Some-branch.branch c.in-Some-branch.is c.bytes-bytes.result.now c.len-len.result c.bytes-bytes.ensures.bits c.len-len.ensures

pub split_before-requires-clause-limit : goal.split_before-requires-clause-limit
split_before-requires-clause-limit g c =
    let s = c.requires.stands in
    let limit_is : c.from-limit.result ≡ c.in-Some-branch.branch.bit = c.from-limit.ensures in
    let w : IsOnWay (leaves_of c.args.pool.now) (forks_of c.args.pool.now) s.0 (bits_of c.args.key.now c.args.bits) (Branch c.in-Branch.id) c.loop-at.depth c.loop-at.checked c.loop-at.best = rw c.in-Branch.is at (c.loop-at.invariant.reached s.0 s.1) in
    let deep = fork_below c.args.pool.now s.0 c.args.key.now c.args.bits c.in-Branch.id c.loop-at.depth c.loop-at.checked c.loop-at.best c.get-node-in-Branch.result.now c.get-node-in-Branch.ensures.value w c.in-Some-branch.branch c.in-Some-branch.is in
    let before = c.loop-at.invariant.checked in
    omega arith

pub returns-in-Some-split_before-clause-found : goal.returns-in-Some-split_before-clause-found
returns-in-Some-split_before-clause-found g c pairs stands =
    let limit_is : c.from-limit.result ≡ c.in-Some-branch.branch.bit = c.from-limit.ensures in
    let found = rw limit_is at c.split_before.ensures in
    let w : IsOnWay (leaves_of c.args.pool.now) (forks_of c.args.pool.now) pairs (bits_of c.args.key.now c.args.bits) (Branch c.in-Branch.id) c.loop-at.depth c.loop-at.checked c.loop-at.best = rw c.in-Branch.is at (c.loop-at.invariant.reached pairs stands) in
    fork_splits c.args.pool.now pairs c.args.key.now c.args.bits c.in-Branch.id c.loop-at.depth c.loop-at.checked c.loop-at.best c.get-node-in-Branch.result.now c.get-node-in-Branch.ensures.value w c.in-Some-branch.branch c.in-Some-branch.is c.bytes-bytes.result.now c.len-len.result c.bytes-bytes.ensures.bits c.len-len.ensures c.in-Some-split_before.field-0 (sym c.in-Some-split_before.is ∙ found)

pub loop-at-preserved : goal.loop-at-preserved
loop-at-preserved g c =
    let s = c.requires.stands in
    let limit_is : c.from-limit.result ≡ c.in-Some-branch.branch.bit = c.from-limit.ensures in
    let inside = c.if-limit-bits.false in
    let w : IsOnWay (leaves_of c.args.pool.now) (forks_of c.args.pool.now) s.0 (bits_of c.args.key.now c.args.bits) (Branch c.in-Branch.id) c.loop-at.depth c.loop-at.checked c.loop-at.best = rw c.in-Branch.is at (c.loop-at.invariant.reached s.0 s.1) in
    let deep = fork_below c.args.pool.now s.0 c.args.key.now c.args.bits c.in-Branch.id c.loop-at.depth c.loop-at.checked c.loop-at.best c.get-node-in-Branch.result.now c.get-node-in-Branch.ensures.value w c.in-Some-branch.branch c.in-Some-branch.is in
    record {
      reached = λ pairs stands.
          let found = rw limit_is at c.split_before.ensures in
          let w : IsOnWay (leaves_of c.args.pool.now) (forks_of c.args.pool.now) pairs (bits_of c.args.key.now c.args.bits) (Branch c.in-Branch.id) c.loop-at.depth c.loop-at.checked c.loop-at.best = rw c.in-Branch.is at (c.loop-at.invariant.reached pairs stands) in
          rw limit_is (fork_has_key c.args.pool.now pairs c.args.key.now c.args.bits c.in-Branch.id c.loop-at.depth c.loop-at.checked c.loop-at.best c.get-node-in-Branch.result.now c.get-node-in-Branch.ensures.value w c.in-Some-branch.branch c.in-Some-branch.is c.bytes-bytes.result.now c.len-len.result c.bytes-bytes.ensures.bits c.len-len.ensures c.code_bit-right.result c.in-Some-ending.front (rw limit_is at c.code_bit-right.ensures) (sym c.ending.ensures ∙ c.in-Some-ending.is) (omega arith) (sym c.in-None-split_before.is ∙ found));
      checked = omega arith;
      depth = omega arith;
      cost = omega arith;
    }

pub loop-at-smaller : goal.loop-at-smaller
loop-at-smaller g c =
    let s = c.requires.stands in
    let limit_is : c.from-limit.result ≡ c.in-Some-branch.branch.bit = c.from-limit.ensures in
    let inside = c.if-limit-bits.false in
    let w : IsOnWay (leaves_of c.args.pool.now) (forks_of c.args.pool.now) s.0 (bits_of c.args.key.now c.args.bits) (Branch c.in-Branch.id) c.loop-at.depth c.loop-at.checked c.loop-at.best = rw c.in-Branch.is at (c.loop-at.invariant.reached s.0 s.1) in
    let deep = fork_below c.args.pool.now s.0 c.args.key.now c.args.bits c.in-Branch.id c.loop-at.depth c.loop-at.checked c.loop-at.best c.get-node-in-Branch.result.now c.get-node-in-Branch.ensures.value w c.in-Some-branch.branch c.in-Some-branch.is in
    omega arith
