use Rattle.std.proofs.Common.{◌++◌, ◌∷◌}
use Rattle.hx_ebtree.proofs.NodeLemmas.{kept_on, kept_relinked}
use Rattle.hx_ebtree.proofs.UnchainLemmas.{taken_lies, unchains, unchains_others}
use Rattle.hx_ebtree.proofs.remove.unchain.Goals as goal

pub unlink-requires : goal.unlink-requires
unlink-requires g c =
    let r = c.requires in
    (r.1, r.2, taken_lies c.args.pool.now c.take_chain-chain.new.pool c.args.front c.take_chain-chain.result c.take_chain-chain.ensures.parts r.0 (r.1 ++ c.args.id ∷ r.2) r.3 r.4)

pub returns-clause-parts : goal.returns-clause-parts
returns-clause-parts g c =
    unchains c.args.pool.now c.take_chain-chain.new.pool c.args.front c.take_chain-chain.result c.take_chain-chain.ensures.parts
    c.unlink.new.pool c.unlink.new.self c.args.id c.unlink.ensures.lies c.unlink.ensures.values c.unlink.ensures.others

pub returns-clause-kept : goal.returns-clause-kept
returns-clause-kept g c =
    kept_on c.args.pool.now c.take_chain-chain.new.pool c.unlink.new.pool c.take_chain-chain.ensures.kept
    (kept_relinked c.take_chain-chain.new.pool c.unlink.new.pool c.unlink.ensures.values)

pub returns-clause-others : goal.returns-clause-others
returns-clause-others g c =
    unchains_others c.args.pool.now c.take_chain-chain.new.pool c.args.front c.take_chain-chain.result c.take_chain-chain.ensures.parts
    c.unlink.new.pool c.unlink.new.self c.args.id c.unlink.ensures.lies c.unlink.ensures.values c.unlink.ensures.others c.take_chain-chain.ensures.others
