use Rattle.std.proofs.Common.{Some, None}
use Rattle.hx_ebtree.proofs.NodeLemmas.{kept_self}
use Rattle.hx_ebtree.proofs.MoveLemmas.{stands_part, stands_none, part_left, part_right, part_up, part_off}
use Rattle.hx_ebtree.specs.Change.{node_of}
use Rattle.hx_ebtree.specs.Tree.{leaves_of, forks_of}
use Rattle.hx_ebtree.proofs.DetachLemmas.{fork_live, part_live, branch_read}
use Rattle.hx_ebtree.proofs.tree.Tree.move_branch.Goals as goal

pub move_part-requires-clause-left : goal.move_part-requires-clause-left
move_part-requires-clause-left g c =
    let has = branch_read c.args.pool.now c.args.a c.get.result.now (Some c.in-Some.part) c.get.ensures.value c.in-Some.is in
    let w = c.requires.without in
    part_live c.args.pool.now (node_of c.in-Some.part.left) (part_left (leaves_of c.args.pool.now) (forks_of c.args.pool.now) c.args.self.now.root c.args.a c.args.b w.0 w.1 w.2 c.in-Some.part has)

pub move_part-requires-clause-right : goal.move_part-requires-clause-right
move_part-requires-clause-right g c =
    let has = branch_read c.args.pool.now c.args.a c.get.result.now (Some c.in-Some.part) c.get.ensures.value c.in-Some.is in
    let w = c.requires.without in
    part_live c.args.pool.now (node_of c.in-Some.part.right) (part_right (leaves_of c.args.pool.now) (forks_of c.args.pool.now) c.args.self.now.root c.args.a c.args.b w.0 w.1 w.2 c.in-Some.part has)

pub move_part-requires-clause-up : goal.move_part-requires-clause-up
move_part-requires-clause-up g c u e =
    let has = branch_read c.args.pool.now c.args.a c.get.result.now (Some c.in-Some.part) c.get.ensures.value c.in-Some.is in
    let w = c.requires.without in
    let b = part_up (leaves_of c.args.pool.now) (forks_of c.args.pool.now) c.args.self.now.root c.args.a c.args.b w.0 w.1 w.2 c.in-Some.part has u e in
    fork_live c.args.pool.now u.node b.0 b.1

pub returns-in-Some-clause-stands : goal.returns-in-Some-clause-stands
returns-in-Some-clause-stands g c shape pairs w =
    let has = branch_read c.args.pool.now c.args.a c.get.result.now (Some c.in-Some.part) c.get.ensures.value c.in-Some.is in
    let s = stands_part (leaves_of c.args.pool.now) (forks_of c.args.pool.now) c.args.self.now.root c.args.a c.args.b shape pairs c.in-Some.part _ _ _ w has c.move_part.ensures.parts in
    record { shape = s.0; stands = s.1 }

pub returns-in-Some-clause-others : goal.returns-in-Some-clause-others
returns-in-Some-clause-others g c shape pairs w k off other =
    let has = branch_read c.args.pool.now c.args.a c.get.result.now (Some c.in-Some.part) c.get.ensures.value c.in-Some.is in
    let o = part_off (leaves_of c.args.pool.now) (forks_of c.args.pool.now) c.args.self.now.root c.args.a c.args.b shape pairs w c.in-Some.part has k off in
    c.move_part.ensures.others k other o.0 o.1 o.2 o.3

pub returns-in-None-clause-stands : goal.returns-in-None-clause-stands
returns-in-None-clause-stands g c shape pairs w =
    let none = branch_read c.args.pool.now c.args.a c.get.result.now None c.get.ensures.value c.in-None.is in
    record { shape = shape; stands = stands_none (leaves_of c.args.pool.now) (forks_of c.args.pool.now) c.args.self.now.root c.args.a c.args.b shape pairs w none }

pub returns-in-None-clause-kept : goal.returns-in-None-clause-kept
returns-in-None-clause-kept g c = kept_self c.args.pool.now
