use Rattle.hx_ebtree.proofs.NodeLemmas.{kept_self}
use Rattle.hx_ebtree.proofs.tree.Tree.set_down.Goals as goal

pub returns-in-None-clause-kept : goal.returns-in-None-clause-kept
returns-in-None-clause-kept g c = kept_self c.args.pool.now
