use Rattle.std.proofs.Common.{refl, Some, None, arith}
use Rattle.hx_ebtree.specs.declared.node.Down.TheVariants.{Leaf}
use Rattle.hx_ebtree.specs.Bits.{bits_of}
use Rattle.hx_ebtree.specs.Tree.{leaves_of, forks_of, StandsAs}
use Rattle.hx_ebtree.specs.Seat.{IsSame, IsBeside}
use Rattle.hx_ebtree.proofs.InsertSteps.{off_chain, off_at, off_up, same_lies, at_live, up_live, sought, alone_stands, same_stands, beside_stands, beside_within}
use Rattle.hx_ebtree.proofs.BitLemmas.{bits_length}
use Rattle.hx_ebtree.proofs.FrameLemmas.{chain_frame, tree_frame}
use Rattle.hx_ebtree.proofs.tree.Tree.insert.Goals as goal

pub push_same-requires-clause-lies : goal.push_same-requires-clause-lies
push_same-requires-clause-lies g c =
    let s = c.requires.stands in
    let r : IsSame (leaves_of c.args.pool.now) (forks_of c.args.pool.now) c.args.self.now.root s.0 (bits_of c.bytes.result.now c.len.result) c.in-Some-Same.front = rw (c.in-Some-Same.is, c.in-Some-Same.field-0-is) at (c.seek.ensures.seat s.0 s.1) in
    same_lies c.args.pool.now c.args.self.now.root s.0 (bits_of c.bytes.result.now c.len.result) c.args.id s.2 c.in-Some-Same.front r

pub put_fork-requires-clause-at : goal.put_fork-requires-clause-at
put_fork-requires-clause-at g c =
    let s = c.requires.stands in
    let r : IsBeside (leaves_of c.args.pool.now) (forks_of c.args.pool.now) c.args.self.now.root s.0 (bits_of c.bytes.result.now c.len.result) c.in-Some-Beside.at c.in-Some-Beside.up c.in-Some-Beside.bit c.in-Some-Beside.right = rw (c.in-Some-Beside.is, c.in-Some-Beside.field-0-is) at (c.seek.ensures.seat s.0 s.1) in
    at_live c.args.pool.now c.args.self.now.root s.0 (bits_of c.bytes.result.now c.len.result) c.in-Some-Beside.at c.in-Some-Beside.up c.in-Some-Beside.bit c.in-Some-Beside.right r

pub put_fork-requires-clause-up : goal.put_fork-requires-clause-up
put_fork-requires-clause-up g c =
    let s = c.requires.stands in
    let r : IsBeside (leaves_of c.args.pool.now) (forks_of c.args.pool.now) c.args.self.now.root s.0 (bits_of c.bytes.result.now c.len.result) c.in-Some-Beside.at c.in-Some-Beside.up c.in-Some-Beside.bit c.in-Some-Beside.right = rw (c.in-Some-Beside.is, c.in-Some-Beside.field-0-is) at (c.seek.ensures.seat s.0 s.1) in
    up_live c.args.pool.now c.args.self.now.root s.0 (bits_of c.bytes.result.now c.len.result) c.in-Some-Beside.at c.in-Some-Beside.up c.in-Some-Beside.bit c.in-Some-Beside.right r

pub returns-in-None-clause-stands : goal.returns-in-None-clause-stands
returns-in-None-clause-stands g c pairs node stands off is =
    let whole : StandsAs (leaves_of c.args.pool.now) (forks_of c.args.pool.now) c.args.self.now.root None pairs = rw c.in-None.is at (c.seek.ensures.seat pairs stands) in
    let w = alone_stands c.args.pool.now c.put_leaf.new.pool c.args.self.now.root (Some (Leaf c.args.id)) pairs c.args.id node is (bits_of c.bytes.result.now c.len.result) (sought c.args.pool.now c.args.id c.get-node.result.now node c.bytes.result.now c.len.result c.get-node.ensures.value is c.bytes.ensures.bits c.len.ensures) off whole c.put_leaf.ensures.parts refl in
    record { shape = w.0; stands = w.1 }

pub returns-in-None-clause-other_trees : goal.returns-in-None-clause-other_trees
returns-in-None-clause-other_trees g c pairs others t stands off there apart =
    tree_frame c.args.pool.now c.put_leaf.new.pool t others (λ k p. c.put_leaf.ensures.others k (apart k p).1) there

pub returns-in-None-clause-chains : goal.returns-in-None-clause-chains
returns-in-None-clause-chains g c pairs chain xs stands off there apart =
    chain_frame c.args.pool.now c.put_leaf.new.pool chain xs (λ k p. c.put_leaf.ensures.others k (apart k p).1) there

pub returns-in-Some-Same-clause-stands : goal.returns-in-Some-Same-clause-stands
returns-in-Some-Same-clause-stands g c pairs node stands off is =
    let r : IsSame (leaves_of c.args.pool.now) (forks_of c.args.pool.now) c.args.self.now.root pairs (bits_of c.bytes.result.now c.len.result) c.in-Some-Same.front = rw (c.in-Some-Same.is, c.in-Some-Same.field-0-is) at (c.seek.ensures.seat pairs stands) in
    let w = same_stands c.args.pool.now c.push_same.new.pool c.args.self.now.root c.args.self.now.root pairs c.args.id node is (bits_of c.bytes.result.now c.len.result) (sought c.args.pool.now c.args.id c.get-node.result.now node c.bytes.result.now c.len.result c.get-node.ensures.value is c.bytes.ensures.bits c.len.ensures) off c.in-Some-Same.front r c.push_same.ensures.parts refl in
    record { shape = w.0; stands = w.1 }

pub returns-in-Some-Same-clause-others : goal.returns-in-Some-Same-clause-others
returns-in-Some-Same-clause-others g c pairs stands off k away other =
    let r : IsSame (leaves_of c.args.pool.now) (forks_of c.args.pool.now) c.args.self.now.root pairs (bits_of c.bytes.result.now c.len.result) c.in-Some-Same.front = rw (c.in-Some-Same.is, c.in-Some-Same.field-0-is) at (c.seek.ensures.seat pairs stands) in
    c.push_same.ensures.others r.hole.inside.part r.more r.hole.inside.here r.hole.inside.lies k (off_chain (leaves_of c.args.pool.now) (forks_of c.args.pool.now) c.args.self.now.root pairs (bits_of c.bytes.result.now c.len.result) k away c.in-Some-Same.front r) other

pub returns-in-Some-Same-clause-other_trees : goal.returns-in-Some-Same-clause-other_trees
returns-in-Some-Same-clause-other_trees g c pairs others t stands off there apart =
    tree_frame c.args.pool.now c.push_same.new.pool t others (λ k p. returns-in-Some-Same-clause-others g c pairs stands off k (apart k p).0 (apart k p).1) there

pub returns-in-Some-Same-clause-chains : goal.returns-in-Some-Same-clause-chains
returns-in-Some-Same-clause-chains g c pairs chain xs stands off there apart =
    chain_frame c.args.pool.now c.push_same.new.pool chain xs (λ k p. returns-in-Some-Same-clause-others g c pairs stands off k (apart k p).0 (apart k p).1) there

pub returns-in-Some-Beside-clause-stands : goal.returns-in-Some-Beside-clause-stands
returns-in-Some-Beside-clause-stands g c pairs node stands off is =
    let r : IsBeside (leaves_of c.args.pool.now) (forks_of c.args.pool.now) c.args.self.now.root pairs (bits_of c.bytes.result.now c.len.result) c.in-Some-Beside.at c.in-Some-Beside.up c.in-Some-Beside.bit c.in-Some-Beside.right = rw (c.in-Some-Beside.is, c.in-Some-Beside.field-0-is) at (c.seek.ensures.seat pairs stands) in
    let w = beside_stands c.args.pool.now c.put_fork.new.pool c.args.self.now.root c.put_fork.new.self.root pairs c.args.id node is (bits_of c.bytes.result.now c.len.result) (sought c.args.pool.now c.args.id c.get-node.result.now node c.bytes.result.now c.len.result c.get-node.ensures.value is c.bytes.ensures.bits c.len.ensures) off c.in-Some-Beside.at c.in-Some-Beside.up c.in-Some-Beside.bit c.in-Some-Beside.right r c.put_fork.ensures.parts in
    record { shape = w.0; stands = w.1 }

pub returns-in-Some-Beside-clause-others : goal.returns-in-Some-Beside-clause-others
returns-in-Some-Beside-clause-others g c pairs stands off k away other =
    let r : IsBeside (leaves_of c.args.pool.now) (forks_of c.args.pool.now) c.args.self.now.root pairs (bits_of c.bytes.result.now c.len.result) c.in-Some-Beside.at c.in-Some-Beside.up c.in-Some-Beside.bit c.in-Some-Beside.right = rw (c.in-Some-Beside.is, c.in-Some-Beside.field-0-is) at (c.seek.ensures.seat pairs stands) in
    c.put_fork.ensures.others k other (off_at (leaves_of c.args.pool.now) (forks_of c.args.pool.now) c.args.self.now.root pairs (bits_of c.bytes.result.now c.len.result) k away c.in-Some-Beside.at c.in-Some-Beside.up c.in-Some-Beside.bit c.in-Some-Beside.right r) (off_up (leaves_of c.args.pool.now) (forks_of c.args.pool.now) c.args.self.now.root pairs (bits_of c.bytes.result.now c.len.result) k away c.in-Some-Beside.at c.in-Some-Beside.up c.in-Some-Beside.bit c.in-Some-Beside.right r)

pub returns-in-Some-Beside-clause-other_trees : goal.returns-in-Some-Beside-clause-other_trees
returns-in-Some-Beside-clause-other_trees g c pairs others t stands off there apart =
    tree_frame c.args.pool.now c.put_fork.new.pool t others (λ k p. returns-in-Some-Beside-clause-others g c pairs stands off k (apart k p).0 (apart k p).1) there

pub returns-in-Some-Beside-clause-chains : goal.returns-in-Some-Beside-clause-chains
returns-in-Some-Beside-clause-chains g c pairs chain xs stands off there apart =
    chain_frame c.args.pool.now c.put_fork.new.pool chain xs (λ k p. returns-in-Some-Beside-clause-others g c pairs stands off k (apart k p).0 (apart k p).1) there

pub overflow_cast-bit : goal.overflow_cast-bit
overflow_cast-bit g c =
    let s = c.requires.stands in
    let r : IsBeside (leaves_of c.args.pool.now) (forks_of c.args.pool.now) c.args.self.now.root s.0 (bits_of c.bytes.result.now c.len.result) c.in-Some-Beside.at c.in-Some-Beside.up c.in-Some-Beside.bit c.in-Some-Beside.right = rw (c.in-Some-Beside.is, c.in-Some-Beside.field-0-is) at (c.seek.ensures.seat s.0 s.1) in
    let within = beside_within (leaves_of c.args.pool.now) (forks_of c.args.pool.now) c.args.self.now.root s.0 (bits_of c.bytes.result.now c.len.result) c.in-Some-Beside.at c.in-Some-Beside.up c.in-Some-Beside.bit c.in-Some-Beside.right r in
    let long = bits_length c.bytes.result.now c.len.result in let counted = c.len.ensures in let few = c.bytes.ensures.few in
    record { fits = omega arith }
