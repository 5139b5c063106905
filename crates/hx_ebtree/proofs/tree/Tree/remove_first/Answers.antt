use Rattle.std.proofs.Common.{◌∙◌}
use Rattle.hx_ebtree.specs.KeyList.{without}
use Rattle.hx_ebtree.proofs.NodeLemmas.{kept_on, kept_live}
use Rattle.hx_ebtree.proofs.RemoveLemmas.{off_without}
use Rattle.hx_ebtree.proofs.DetachLemmas.{first_lies, first_other, leaf_live}
use Rattle.hx_ebtree.proofs.tree.Tree.remove_first.Goals as goal

pub move_branch-requires-clause-a : goal.move_branch-requires-clause-a
move_branch-requires-clause-a g c =
    let p = first_lies _ _ _ _ _ c.requires.1 in
    kept_live c.args.pool.now c.detach-next.new.pool c.args.id c.detach-next.ensures.kept (leaf_live c.args.pool.now c.args.id p.0 p.2)

pub move_branch-requires-clause-without : goal.move_branch-requires-clause-without
move_branch-requires-clause-without g c =
    let w = c.detach-next.ensures.without c.requires.0 c.requires.1 in
    (w.0, without c.args.id c.requires.0, w.1)

pub returns-clause-stands : goal.returns-clause-stands
returns-clause-stands g c pairs first =
    let w = c.detach-next.ensures.without pairs first in
    c.move_branch.ensures.stands w.0 (without c.args.id pairs) w.1

pub returns-clause-kept : goal.returns-clause-kept
returns-clause-kept g c = kept_on c.args.pool.now c.detach-next.new.pool c.move_branch.new.pool c.detach-next.ensures.kept c.move_branch.ensures.kept

pub returns-clause-others : goal.returns-clause-others
returns-clause-others g c pairs first k off =
    let w = c.detach-next.ensures.without pairs first in
    c.move_branch.ensures.others w.0 (without c.args.id pairs) w.1 k (off_without c.args.id pairs k off) (first_other _ _ _ _ _ first k off)
    ∙ c.detach-next.ensures.others pairs first k off
