use Rattle.hx_ebtree.proofs.NodeLemmas.{kept_on}
use Rattle.hx_ebtree.proofs.tree.Tree.cut.Goals as goal

pub returns-clause-kept : goal.returns-clause-kept
returns-clause-kept g c =
    kept_on c.args.pool.now c.set_down.new.pool c.set_branch.new.pool
    (kept_on c.args.pool.now c.set_up.new.pool c.set_down.new.pool c.set_up.ensures.kept c.set_down.ensures.kept)
    c.set_branch.ensures.kept
