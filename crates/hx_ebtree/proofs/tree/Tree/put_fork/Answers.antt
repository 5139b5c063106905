use Rattle.hx_ebtree.proofs.NodeLemmas.{kept_on}
use Rattle.hx_ebtree.proofs.tree.Tree.put_fork.Goals as goal

pub returns-clause-kept : goal.returns-clause-kept
returns-clause-kept g c =
    kept_on c.args.pool.now c.set_up.new.pool c.set_down.new.pool
    (kept_on c.args.pool.now c.put_leaf.new.pool c.set_up.new.pool c.put_leaf.ensures.kept c.set_up.ensures.kept)
    c.set_down.ensures.kept
