use Rattle.std.proofs.Common.{◌∙◌}
use Rattle.hx_ebtree.proofs.NodeLemmas.{kept_on}
use Rattle.hx_ebtree.proofs.remove.shorten.Goals as goal

pub returns-clause-kept : goal.returns-clause-kept
returns-clause-kept g c = kept_on c.args.pool.now c.unchain-chain.new.pool c.put_chain.new.pool c.unchain-chain.ensures.kept c.put_chain.ensures.kept

pub returns-clause-others : goal.returns-clause-others
returns-clause-others g c part xs ys here lies k off other =
    c.put_chain.ensures.others k other ∙ c.unchain-chain.ensures.others part xs ys here lies k off other
