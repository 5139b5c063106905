use Rattle.hx_ebtree.proofs.NodeLemmas.{kept_on}
use Rattle.hx_ebtree.proofs.tree.Tree.make_first.Goals as goal

pub returns-clause-kept : goal.returns-clause-kept
returns-clause-kept g c = kept_on c.args.pool.now c.set_first.new.pool c.set_down.new.pool c.set_first.ensures.kept c.set_down.ensures.kept
