use Rattle.std.proofs.Common.{Some, sym, ap, subst, ◌∙◌}
use Rattle.hx_pool.specs.Pool.{IsLive}
use Rattle.hx_ebtree.specs.Change.{node_of}
use Rattle.hx_ebtree.specs.Remove.{other_of}
use Rattle.hx_ebtree.proofs.NodeLemmas.{kept_self}
use Rattle.hx_ebtree.proofs.DetachLemmas.{gap_at, gap_has, cuts_at, cut_up_has, cut_other_has, cut_off, cut_without, alone_without, fork_live, part_live, branch_read}
use Rattle.hx_ebtree.proofs.tree.Tree.cut_leaf.Goals as goal

pub get-requires : goal.get-requires
get-requires g c =
    let b = gap_has _ _ _ _ _ _ (gap_at _ _ _ _ _ _ _ c.in-Some.is c.requires.gap.1) in
    fork_live c.args.pool.now c.in-Some.place.node b.0 b.1

pub cut-requires-clause-up : goal.cut-requires-clause-up
cut-requires-clause-up g c u e =
    let has = branch_read c.args.pool.now c.in-Some.place.node c.get.result.now (Some c.in-Some-branch.part) c.get.ensures.value c.in-Some-branch.is in
    let b = cut_up_has _ _ _ _ _ _ (gap_at _ _ _ _ _ _ _ c.in-Some.is c.requires.gap.1) c.in-Some-branch.part has u e in
    fork_live c.args.pool.now u.node b.0 b.1

pub cut-requires-clause-other : goal.cut-requires-clause-other
cut-requires-clause-other g c =
    let has = branch_read c.args.pool.now c.in-Some.place.node c.get.result.now (Some c.in-Some-branch.part) c.get.ensures.value c.in-Some-branch.is in
    let p = cut_other_has _ _ _ _ _ _ (gap_at _ _ _ _ _ _ _ c.in-Some.is c.requires.gap.1) c.in-Some-branch.part has in
    subst (λ d. IsLive c.args.pool.now (node_of d)) (sym c.other_side-other.ensures)
    (part_live c.args.pool.now (node_of (other_of c.in-Some.place.right c.in-Some-branch.part)) p)

pub returns-in-None-clause-without : goal.returns-in-None-clause-without
returns-in-None-clause-without g c pairs gap = alone_without _ _ _ _ _ (gap_at _ _ _ _ _ _ _ c.in-None.is gap)

pub returns-in-None-clause-kept : goal.returns-in-None-clause-kept
returns-in-None-clause-kept g c = kept_self c.args.pool.now

pub returns-in-Some-branch-clause-without : goal.returns-in-Some-branch-clause-without
returns-in-Some-branch-clause-without g c pairs gap =
    let has = branch_read c.args.pool.now c.in-Some.place.node c.get.result.now (Some c.in-Some-branch.part) c.get.ensures.value c.in-Some-branch.is in
    cut_without _ _ _ _ _ _ (gap_at _ _ _ _ _ _ _ c.in-Some.is gap) c.in-Some-branch.part has _ _ _
    (cuts_at _ _ _ _ _ _ _ _ _ _ c.other_side-other.ensures c.cut.ensures.parts)

pub returns-in-Some-branch-clause-others : goal.returns-in-Some-branch-clause-others
returns-in-Some-branch-clause-others g c pairs gap k off =
    let has = branch_read c.args.pool.now c.in-Some.place.node c.get.result.now (Some c.in-Some-branch.part) c.get.ensures.value c.in-Some-branch.is in
    let o = cut_off _ _ _ _ _ _ (gap_at _ _ _ _ _ _ _ c.in-Some.is gap) c.in-Some-branch.part has k off in
    c.cut.ensures.others k o.0 (λ e. o.1 (e ∙ ap node_of c.other_side-other.ensures)) o.2
