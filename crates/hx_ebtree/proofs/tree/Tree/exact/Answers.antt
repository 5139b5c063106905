use Rattle.std.proofs.Common.{◌≡◌, ◌∙◌, sym, ap, arith}
use Rattle.hx_ebtree.specs.declared.node.Down.TheVariants.{Leaf, Branch}
use Rattle.hx_ebtree.specs.Bits.{bits_of}
use Rattle.hx_ebtree.specs.KeyList.{is_same_key}
use Rattle.hx_ebtree.specs.Tree.{leaves_of, forks_of}
use Rattle.hx_ebtree.specs.Seat.{IsOnWayTo}
use Rattle.hx_ebtree.proofs.BitLemmas.{bits_length}
use Rattle.hx_ebtree.proofs.SeekLemmas.{key_seen, bits_seen, fork_seen}
use Rattle.hx_ebtree.proofs.ExactLemmas.{way_to_root, none_at_root, exact_here, exact_nowhere, way_is_deeper, way_goes_on, key_ends_above, leaf_lives, fork_lives, fork_is_there}
use Rattle.hx_ebtree.proofs.tree.Tree.exact.Goals as goal

pub returns-in-None-clause-found : goal.returns-in-None-clause-found
returns-in-None-clause-found g c pairs stands =
    none_at_root (leaves_of c.args.pool.now) (forks_of c.args.pool.now) c.args.self.now.root pairs (bits_of c.args.key.now c.args.bits) stands.shape c.in-None.is stands.stands

pub loop-at-init : goal.loop-at-init
loop-at-init g c = record {
  reached = λ pairs stands. way_to_root (leaves_of c.args.pool.now) (forks_of c.args.pool.now) c.args.self.now.root pairs (bits_of c.args.key.now c.args.bits) stands.shape c.in-Some.down c.in-Some.is stands.stands;
  depth = omega arith;
  cost = omega arith;
}

pub get-node-requires : goal.get-node-requires
get-node-requires g c =
    let s = c.requires.stands in
    let r : IsOnWayTo (leaves_of c.args.pool.now) (forks_of c.args.pool.now) s.0 (bits_of c.args.key.now c.args.bits) (Leaf c.in-Leaf.id) c.loop-at.depth = rw c.in-Leaf.is at (c.loop-at.invariant.reached s.0 s.1) in
    leaf_lives c.args.pool.now r.up r.here c.in-Leaf.id r.hangs

pub returns-then-same_key-clause-found : goal.returns-then-same_key-clause-found
returns-then-same_key-clause-found g c pairs stands =
    let r : IsOnWayTo (leaves_of c.args.pool.now) (forks_of c.args.pool.now) pairs (bits_of c.args.key.now c.args.bits) (Leaf c.in-Leaf.id) c.loop-at.depth = rw c.in-Leaf.is at (c.loop-at.invariant.reached pairs stands) in
    let n = c.get-node.result.now in
    exact_here (leaves_of c.args.pool.now) (forks_of c.args.pool.now) pairs (bits_of c.args.key.now c.args.bits) c.in-Leaf.id c.loop-at.depth r n.key (key_seen c.args.pool.now c.in-Leaf.id n c.get-node.ensures.value)
    (sym (c.same_key.ensures ∙ ap (λ k. is_same_key k (bits_of c.args.key.now c.args.bits)) (bits_seen c.bytes.result.now c.len.result c.get-node.result.now.key c.bytes.ensures.bits c.len.ensures)) ∙ c.if-same_key.true)

pub returns-in-Leaf-clause-found : goal.returns-in-Leaf-clause-found
returns-in-Leaf-clause-found g c pairs stands =
    let r : IsOnWayTo (leaves_of c.args.pool.now) (forks_of c.args.pool.now) pairs (bits_of c.args.key.now c.args.bits) (Leaf c.in-Leaf.id) c.loop-at.depth = rw c.in-Leaf.is at (c.loop-at.invariant.reached pairs stands) in
    let n = c.get-node.result.now in
    exact_nowhere (leaves_of c.args.pool.now) (forks_of c.args.pool.now) pairs (bits_of c.args.key.now c.args.bits) c.in-Leaf.id c.loop-at.depth r n.key (key_seen c.args.pool.now c.in-Leaf.id n c.get-node.ensures.value)
    (sym (c.same_key.ensures ∙ ap (λ k. is_same_key k (bits_of c.args.key.now c.args.bits)) (bits_seen c.bytes.result.now c.len.result c.get-node.result.now.key c.bytes.ensures.bits c.len.ensures)) ∙ c.if-same_key.false)

pub get-node-requires-in-Branch : goal.get-node-requires-in-Branch
get-node-requires-in-Branch g c =
    let s = c.requires.stands in
    let r : IsOnWayTo (leaves_of c.args.pool.now) (forks_of c.args.pool.now) s.0 (bits_of c.args.key.now c.args.bits) (Branch c.in-Branch.id) c.loop-at.depth = rw c.in-Branch.is at (c.loop-at.invariant.reached s.0 s.1) in
    fork_lives c.args.pool.now r.up r.here c.in-Branch.id r.hangs

pub unreachable-requires : goal.unreachable-requires
unreachable-requires g c =
    let s = c.requires.stands in
    let r : IsOnWayTo (leaves_of c.args.pool.now) (forks_of c.args.pool.now) s.0 (bits_of c.args.key.now c.args.bits) (Branch c.in-Branch.id) c.loop-at.depth = rw c.in-Branch.is at (c.loop-at.invariant.reached s.0 s.1) in
    fork_is_there c.args.pool.now r.up r.here c.in-Branch.id c.get-node-in-Branch.result.now c.get-node-in-Branch.ensures.value c.in-None-branch.is r.hangs

pub returns-then-limit-bits-clause-found : goal.returns-then-limit-bits-clause-found
returns-then-limit-bits-clause-found g c pairs stands =
    let limit_is : c.from-limit.result ≡ c.in-Some-branch.branch.bit = c.from-limit.ensures in
    let r : IsOnWayTo (leaves_of c.args.pool.now) (forks_of c.args.pool.now) pairs (bits_of c.args.key.now c.args.bits) (Branch c.in-Branch.id) c.loop-at.depth = rw c.in-Branch.is at (c.loop-at.invariant.reached pairs stands) in
    let past = c.if-limit-bits.true in let long = bits_length c.args.key.now c.args.bits in
    key_ends_above (leaves_of c.args.pool.now) (forks_of c.args.pool.now) pairs (bits_of c.args.key.now c.args.bits) c.in-Branch.id c.loop-at.depth r c.in-Some-branch.branch (fork_seen c.args.pool.now c.in-Branch.id c.get-node-in-Branch.result.now c.get-node-in-Branch.ensures.value ∙ c.in-Some-branch.is) (omega arith)

pub loop-at-smaller : goal.loop-at-smaller
loop-at-smaller g c =
    let limit_is : c.from-limit.result ≡ c.in-Some-branch.branch.bit = c.from-limit.ensures in
    let s = c.requires.stands in
    let r : IsOnWayTo (leaves_of c.args.pool.now) (forks_of c.args.pool.now) s.0 (bits_of c.args.key.now c.args.bits) (Branch c.in-Branch.id) c.loop-at.depth = rw c.in-Branch.is at (c.loop-at.invariant.reached s.0 s.1) in
    let deep = way_is_deeper (leaves_of c.args.pool.now) (forks_of c.args.pool.now) s.0 (bits_of c.args.key.now c.args.bits) c.in-Branch.id c.loop-at.depth r c.in-Some-branch.branch (fork_seen c.args.pool.now c.in-Branch.id c.get-node-in-Branch.result.now c.get-node-in-Branch.ensures.value ∙ c.in-Some-branch.is) in
    let within = c.if-limit-bits.false in
    omega arith

pub loop-at-preserved : goal.loop-at-preserved
loop-at-preserved g c =
    let limit_is : c.from-limit.result ≡ c.in-Some-branch.branch.bit = c.from-limit.ensures in
    let s = c.requires.stands in
    let r : IsOnWayTo (leaves_of c.args.pool.now) (forks_of c.args.pool.now) s.0 (bits_of c.args.key.now c.args.bits) (Branch c.in-Branch.id) c.loop-at.depth = rw c.in-Branch.is at (c.loop-at.invariant.reached s.0 s.1) in
    let deep = way_is_deeper (leaves_of c.args.pool.now) (forks_of c.args.pool.now) s.0 (bits_of c.args.key.now c.args.bits) c.in-Branch.id c.loop-at.depth r c.in-Some-branch.branch (fork_seen c.args.pool.now c.in-Branch.id c.get-node-in-Branch.result.now c.get-node-in-Branch.ensures.value ∙ c.in-Some-branch.is) in
    let within = c.if-limit-bits.false in
    record {
      reached = λ pairs stands.
          let r : IsOnWayTo (leaves_of c.args.pool.now) (forks_of c.args.pool.now) pairs (bits_of c.args.key.now c.args.bits) (Branch c.in-Branch.id) c.loop-at.depth = rw c.in-Branch.is at (c.loop-at.invariant.reached pairs stands) in
          rw (c.side-at.ensures, limit_is) (way_goes_on (leaves_of c.args.pool.now) (forks_of c.args.pool.now) pairs (bits_of c.args.key.now c.args.bits) c.in-Branch.id c.loop-at.depth r c.in-Some-branch.branch (fork_seen c.args.pool.now c.in-Branch.id c.get-node-in-Branch.result.now c.get-node-in-Branch.ensures.value ∙ c.in-Some-branch.is) c.code_bit.result (rw limit_is at c.code_bit.ensures));
      depth = omega arith;
      cost = omega arith;
    }
