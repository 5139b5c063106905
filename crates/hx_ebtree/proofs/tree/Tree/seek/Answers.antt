use Rattle.std.proofs.Common.{◌≡◌, ◌∙◌, sym, ap, arith, Some, None}
use Rattle.hx_ebtree.specs.declared.node.Down.TheVariants.{Branch}
use Rattle.hx_ebtree.specs.Bits.{bits_of, split_of}
use Rattle.hx_ebtree.specs.Tree.{leaves_of, forks_of}
use Rattle.hx_ebtree.specs.Seat.{Reaches}
use Rattle.hx_ebtree.proofs.BitLemmas.{bits_length}
use Rattle.hx_ebtree.proofs.SeekLemmas.{key_seen, bits_seen, before_some, split_fits, leaf_is_live, fork_is_live, fork_has, reach_root, seat_at_root, seat_at_leaf, seat_at_fork, fork_read, parts_at, goes_on, step_down}
use Rattle.hx_ebtree.proofs.CommonLemmas.{leaf_common, fork_common, fork_deep}
use Rattle.hx_ebtree.proofs.tree.Tree.seek.Goals as goal

pub loop-at-init : goal.loop-at-init
loop-at-init g c = record {
  reached = λ pairs stands. reach_root (leaves_of c.args.pool.now) (forks_of c.args.pool.now) c.args.self.now.root pairs (bits_of c.args.key.now c.args.bits) stands.shape c.in-Some.down c.in-Some.is stands.stands;
  depth = omega arith;
  cost = omega arith;
}

pub returns-in-None-clause-seat : goal.returns-in-None-clause-seat
returns-in-None-clause-seat g c pairs stands =
    seat_at_root (leaves_of c.args.pool.now) (forks_of c.args.pool.now) c.args.self.now.root pairs (bits_of c.args.key.now c.args.bits) stands.shape c.in-None.is stands.stands

pub get-node-requires : goal.get-node-requires
get-node-requires g c =
    let s = c.requires.stands in
    leaf_is_live c.args.pool.now c.args.self.now.root s.0 (bits_of c.args.key.now c.args.bits) c.loop-at.up c.in-Leaf.id c.loop-at.depth (rw c.in-Leaf.is at (c.loop-at.invariant.reached s.0 s.1))

pub leaf_seat-requires-clause-found : goal.leaf_seat-requires-clause-found
leaf_seat-requires-clause-found g c at e =
    let fits = split_fits (bits_of c.args.key.now c.args.bits) _ at (sym c.split-found.ensures ∙ e) in
    let long = bits_length c.args.key.now c.args.bits in
    omega arith

pub returns-in-Leaf-clause-seat : goal.returns-in-Leaf-clause-seat
returns-in-Leaf-clause-seat g c pairs stands =
    seat_at_leaf (leaves_of c.args.pool.now) (forks_of c.args.pool.now) c.args.self.now.root pairs (bits_of c.args.key.now c.args.bits) c.loop-at.up c.in-Leaf.id c.loop-at.depth
    (rw c.in-Leaf.is at (c.loop-at.invariant.reached pairs stands)) c.get-node.result.now.key (key_seen c.args.pool.now c.in-Leaf.id c.get-node.result.now c.get-node.ensures.value)
    c.split-found.result (c.split-found.ensures ∙ ap (split_of (bits_of c.args.key.now c.args.bits)) (bits_seen c.bytes.result.now c.len.result c.get-node.result.now.key c.bytes.ensures.bits c.len.ensures))
    c.leaf_seat.result c.leaf_seat.ensures

pub get-node-requires-in-Branch : goal.get-node-requires-in-Branch
get-node-requires-in-Branch g c =
    let s = c.requires.stands in
    fork_is_live c.args.pool.now c.args.self.now.root s.0 (bits_of c.args.key.now c.args.bits) c.loop-at.up c.in-Branch.id c.loop-at.depth (rw c.in-Branch.is at (c.loop-at.invariant.reached s.0 s.1))

pub unreachable-requires : goal.unreachable-requires
unreachable-requires g c =
    let s = c.requires.stands in
    fork_has c.args.pool.now c.args.self.now.root s.0 (bits_of c.args.key.now c.args.bits) c.loop-at.up c.in-Branch.id c.loop-at.depth c.get-node-in-Branch.result.now c.get-node-in-Branch.ensures.value c.in-None-branch.is
    (rw c.in-Branch.is at (c.loop-at.invariant.reached s.0 s.1))

pub code_bit-right-requires-clause-at : goal.code_bit-right-requires-clause-at
code_bit-right-requires-clause-at g c =
    let limit_is : c.from-limit.result ≡ c.in-Some-branch.branch.bit = c.from-limit.ensures in
    let found = rw limit_is at c.split_before-found.ensures in
    let s = before_some c.in-Some-branch.branch.bit c.in-Some-found.bit _ (sym c.in-Some-found.is ∙ found) in
    let fits = split_fits (bits_of c.args.key.now c.args.bits) _ c.in-Some-found.bit s.0 in
    let long = bits_length c.args.key.now c.args.bits in
    omega arith

pub returns-in-Some-found-clause-seat : goal.returns-in-Some-found-clause-seat
returns-in-Some-found-clause-seat g c pairs stands =
    let limit_is : c.from-limit.result ≡ c.in-Some-branch.branch.bit = c.from-limit.ensures in
    let found = rw limit_is at c.split_before-found.ensures in
    let r : Reaches (leaves_of c.args.pool.now) (forks_of c.args.pool.now) c.args.self.now.root pairs (bits_of c.args.key.now c.args.bits) c.loop-at.up (Branch c.in-Branch.id) c.loop-at.depth = rw c.in-Branch.is at (c.loop-at.invariant.reached pairs stands) in
    let n = c.get-node-in-Branch.result.now in
    seat_at_fork (leaves_of c.args.pool.now) (forks_of c.args.pool.now) c.args.self.now.root pairs (bits_of c.args.key.now c.args.bits) c.loop-at.up c.in-Branch.id c.loop-at.depth r n.key c.in-Some-branch.branch
    (fork_read c.args.pool.now c.args.self.now.root pairs (bits_of c.args.key.now c.args.bits) c.loop-at.up c.in-Branch.id c.loop-at.depth r n c.get-node-in-Branch.ensures.value c.in-Some-branch.branch c.in-Some-branch.is)
    c.in-Some-found.bit
    (parts_at c.args.pool.now c.args.self.now.root pairs (bits_of c.args.key.now c.args.bits) c.loop-at.up c.in-Branch.id c.loop-at.depth r n c.get-node-in-Branch.ensures.value c.in-Some-branch.branch c.in-Some-branch.is
    c.bytes-in-Branch.result.now c.len-in-Branch.result c.bytes-in-Branch.ensures.bits c.len-in-Branch.ensures (Some c.in-Some-found.bit) (sym c.in-Some-found.is ∙ found))
    c.code_bit-right.result c.code_bit-right.ensures

pub code_bit-right-requires-in-None-found-clause-at : goal.code_bit-right-requires-in-None-found-clause-at
code_bit-right-requires-in-None-found-clause-at g c =
    let limit_is : c.from-limit.result ≡ c.in-Some-branch.branch.bit = c.from-limit.ensures in
    let found = rw limit_is at c.split_before-found.ensures in
    let s = c.requires.stands in
    let n = c.get-node-in-Branch.result.now in
    let r : Reaches (leaves_of c.args.pool.now) (forks_of c.args.pool.now) c.args.self.now.root s.0 (bits_of c.args.key.now c.args.bits) c.loop-at.up (Branch c.in-Branch.id) c.loop-at.depth = rw c.in-Branch.is at (c.loop-at.invariant.reached s.0 s.1) in
    let on = goes_on c.args.pool.now c.args.self.now.root s.0 (bits_of c.args.key.now c.args.bits) c.loop-at.up c.in-Branch.id c.loop-at.depth r n c.get-node-in-Branch.ensures.value c.in-Some-branch.branch c.in-Some-branch.is
    (parts_at c.args.pool.now c.args.self.now.root s.0 (bits_of c.args.key.now c.args.bits) c.loop-at.up c.in-Branch.id c.loop-at.depth r n c.get-node-in-Branch.ensures.value c.in-Some-branch.branch c.in-Some-branch.is
    c.bytes-in-Branch.result.now c.len-in-Branch.result c.bytes-in-Branch.ensures.bits c.len-in-Branch.ensures None (sym c.in-None-found.is ∙ found)) in
    let deep = on.0 in
    let fits = on.1 in
    let long = bits_length c.args.key.now c.args.bits in
    omega arith

pub overflow_add-depth : goal.overflow_add-depth
overflow_add-depth g c =
    let limit_is : c.from-limit.result ≡ c.in-Some-branch.branch.bit = c.from-limit.ensures in
    let found = rw limit_is at c.split_before-found.ensures in
    let s = c.requires.stands in
    let n = c.get-node-in-Branch.result.now in
    let r : Reaches (leaves_of c.args.pool.now) (forks_of c.args.pool.now) c.args.self.now.root s.0 (bits_of c.args.key.now c.args.bits) c.loop-at.up (Branch c.in-Branch.id) c.loop-at.depth = rw c.in-Branch.is at (c.loop-at.invariant.reached s.0 s.1) in
    let on = goes_on c.args.pool.now c.args.self.now.root s.0 (bits_of c.args.key.now c.args.bits) c.loop-at.up c.in-Branch.id c.loop-at.depth r n c.get-node-in-Branch.ensures.value c.in-Some-branch.branch c.in-Some-branch.is
    (parts_at c.args.pool.now c.args.self.now.root s.0 (bits_of c.args.key.now c.args.bits) c.loop-at.up c.in-Branch.id c.loop-at.depth r n c.get-node-in-Branch.ensures.value c.in-Some-branch.branch c.in-Some-branch.is
    c.bytes-in-Branch.result.now c.len-in-Branch.result c.bytes-in-Branch.ensures.bits c.len-in-Branch.ensures None (sym c.in-None-found.is ∙ found)) in
    let deep = on.0 in
    let fits = on.1 in
    let long = bits_length c.args.key.now c.args.bits in
    let few = c.ranges.bits.fits in
    record { fits = omega arith }

pub loop-at-smaller : goal.loop-at-smaller
loop-at-smaller g c =
    let limit_is : c.from-limit.result ≡ c.in-Some-branch.branch.bit = c.from-limit.ensures in
    let found = rw limit_is at c.split_before-found.ensures in
    let s = c.requires.stands in
    let n = c.get-node-in-Branch.result.now in
    let r : Reaches (leaves_of c.args.pool.now) (forks_of c.args.pool.now) c.args.self.now.root s.0 (bits_of c.args.key.now c.args.bits) c.loop-at.up (Branch c.in-Branch.id) c.loop-at.depth = rw c.in-Branch.is at (c.loop-at.invariant.reached s.0 s.1) in
    let on = goes_on c.args.pool.now c.args.self.now.root s.0 (bits_of c.args.key.now c.args.bits) c.loop-at.up c.in-Branch.id c.loop-at.depth r n c.get-node-in-Branch.ensures.value c.in-Some-branch.branch c.in-Some-branch.is
    (parts_at c.args.pool.now c.args.self.now.root s.0 (bits_of c.args.key.now c.args.bits) c.loop-at.up c.in-Branch.id c.loop-at.depth r n c.get-node-in-Branch.ensures.value c.in-Some-branch.branch c.in-Some-branch.is
    c.bytes-in-Branch.result.now c.len-in-Branch.result c.bytes-in-Branch.ensures.bits c.len-in-Branch.ensures None (sym c.in-None-found.is ∙ found)) in
    let deep = on.0 in
    let fits = on.1 in
    let long = bits_length c.args.key.now c.args.bits in
    omega arith

pub loop-at-preserved : goal.loop-at-preserved
loop-at-preserved g c =
    let limit_is : c.from-limit.result ≡ c.in-Some-branch.branch.bit = c.from-limit.ensures in
    let found = rw limit_is at c.split_before-found.ensures in
    let s = c.requires.stands in
    let n = c.get-node-in-Branch.result.now in
    let r : Reaches (leaves_of c.args.pool.now) (forks_of c.args.pool.now) c.args.self.now.root s.0 (bits_of c.args.key.now c.args.bits) c.loop-at.up (Branch c.in-Branch.id) c.loop-at.depth = rw c.in-Branch.is at (c.loop-at.invariant.reached s.0 s.1) in
    let on = goes_on c.args.pool.now c.args.self.now.root s.0 (bits_of c.args.key.now c.args.bits) c.loop-at.up c.in-Branch.id c.loop-at.depth r n c.get-node-in-Branch.ensures.value c.in-Some-branch.branch c.in-Some-branch.is
    (parts_at c.args.pool.now c.args.self.now.root s.0 (bits_of c.args.key.now c.args.bits) c.loop-at.up c.in-Branch.id c.loop-at.depth r n c.get-node-in-Branch.ensures.value c.in-Some-branch.branch c.in-Some-branch.is
    c.bytes-in-Branch.result.now c.len-in-Branch.result c.bytes-in-Branch.ensures.bits c.len-in-Branch.ensures None (sym c.in-None-found.is ∙ found)) in
    let deep = on.0 in
    let fits = on.1 in
    let long = bits_length c.args.key.now c.args.bits in
    record {
      reached = λ pairs stands.
          let r : Reaches (leaves_of c.args.pool.now) (forks_of c.args.pool.now) c.args.self.now.root pairs (bits_of c.args.key.now c.args.bits) c.loop-at.up (Branch c.in-Branch.id) c.loop-at.depth = rw c.in-Branch.is at (c.loop-at.invariant.reached pairs stands) in
          let n = c.get-node-in-Branch.result.now in
          rw (c.side-at.ensures, limit_is) ((step_down (leaves_of c.args.pool.now) (forks_of c.args.pool.now) c.args.self.now.root pairs (bits_of c.args.key.now c.args.bits) c.loop-at.up c.in-Branch.id c.loop-at.depth r n.key c.in-Some-branch.branch
          (fork_read c.args.pool.now c.args.self.now.root pairs (bits_of c.args.key.now c.args.bits) c.loop-at.up c.in-Branch.id c.loop-at.depth r n c.get-node-in-Branch.ensures.value c.in-Some-branch.branch c.in-Some-branch.is)
          (parts_at c.args.pool.now c.args.self.now.root pairs (bits_of c.args.key.now c.args.bits) c.loop-at.up c.in-Branch.id c.loop-at.depth r n c.get-node-in-Branch.ensures.value c.in-Some-branch.branch c.in-Some-branch.is
          c.bytes-in-Branch.result.now c.len-in-Branch.result c.bytes-in-Branch.ensures.bits c.len-in-Branch.ensures None (sym c.in-None-found.is ∙ found))
          c.code_bit-right-in-None-found.result (rw limit_is at c.code_bit-right-in-None-found.ensures)).reach);
      depth = omega arith;
      cost = omega arith;
    }

pub split-found-requires-clause-from : goal.split-found-requires-clause-from
split-found-requires-clause-from g c =
    let s = c.requires.stands in
    leaf_common c.args.pool.now c.args.self.now.root s.0 c.args.key.now c.args.bits c.loop-at.up c.in-Leaf.id c.loop-at.depth c.get-node.result.now c.get-node.ensures.value
    c.bytes.result.now c.len.result c.bytes.ensures.bits c.len.ensures (rw c.in-Leaf.is at (c.loop-at.invariant.reached s.0 s.1))

pub split_before-found-requires-clause-from : goal.split_before-found-requires-clause-from
split_before-found-requires-clause-from g c =
    let limit_is : c.from-limit.result ≡ c.in-Some-branch.branch.bit = c.from-limit.ensures in
    let s = c.requires.stands in
    fork_common c.args.pool.now c.args.self.now.root s.0 c.args.key.now c.args.bits c.loop-at.up c.in-Branch.id c.loop-at.depth c.get-node-in-Branch.result.now c.get-node-in-Branch.ensures.value
    c.bytes-in-Branch.result.now c.len-in-Branch.result c.bytes-in-Branch.ensures.bits c.len-in-Branch.ensures (rw c.in-Branch.is at (c.loop-at.invariant.reached s.0 s.1)) c.in-Some-branch.branch c.in-Some-branch.is

pub split_before-found-requires-clause-limit : goal.split_before-found-requires-clause-limit
split_before-found-requires-clause-limit g c =
    let limit_is : c.from-limit.result ≡ c.in-Some-branch.branch.bit = c.from-limit.ensures in
    let s = c.requires.stands in
    let deep = fork_deep c.args.pool.now c.args.self.now.root s.0 c.args.key.now c.args.bits c.loop-at.up c.in-Branch.id c.loop-at.depth c.get-node-in-Branch.result.now c.get-node-in-Branch.ensures.value
    (rw c.in-Branch.is at (c.loop-at.invariant.reached s.0 s.1)) c.in-Some-branch.branch c.in-Some-branch.is in
    omega arith
