use Rattle.std.proofs.Common.{◌∷◌}
use Rattle.hx_ebtree.proofs.NodeLemmas.{kept_on, kept_relinked}
use Rattle.hx_ebtree.proofs.PushLemmas.{chain_taken, pushes, pushes_others}
use Rattle.hx_ebtree.proofs.insert.push_same.Goals as goal

pub push_back-requires-clause-lies : goal.push_back-requires-clause-lies
push_back-requires-clause-lies g c =
    let r = c.requires.lies in
    (c.args.front ∷ r.1, chain_taken c.args.pool.now c.take_chain-chain.new.pool c.args.front c.take_chain-chain.result c.take_chain-chain.ensures.parts r.0 (c.args.front ∷ r.1) r.2 r.3, r.4)

pub returns-clause-parts : goal.returns-clause-parts
returns-clause-parts g c =
    let r = c.requires.lies in
    pushes c.args.pool.now c.take_chain-chain.new.pool c.push_back.new.pool c.put_chain.new.pool c.set_branch.new.pool c.args.front c.args.id c.take_chain-chain.result c.push_back.new.self
    c.take_chain-chain.ensures.parts c.push_back.ensures.lies c.push_back.ensures.values c.push_back.ensures.others c.put_chain.ensures.parts c.set_branch.ensures.parts r.0 r.2

pub returns-clause-kept : goal.returns-clause-kept
returns-clause-kept g c =
    kept_on c.args.pool.now c.put_chain.new.pool c.set_branch.new.pool
    (kept_on c.args.pool.now c.push_back.new.pool c.put_chain.new.pool
    (kept_on c.args.pool.now c.take_chain-chain.new.pool c.push_back.new.pool c.take_chain-chain.ensures.kept (kept_relinked c.take_chain-chain.new.pool c.push_back.new.pool c.push_back.ensures.values))
    c.put_chain.ensures.kept)
    c.set_branch.ensures.kept

pub returns-clause-others : goal.returns-clause-others
returns-clause-others g c =
    pushes_others c.args.pool.now c.take_chain-chain.new.pool c.push_back.new.pool c.put_chain.new.pool c.set_branch.new.pool c.args.front c.args.id c.take_chain-chain.result c.push_back.new.self
    c.take_chain-chain.ensures.parts c.push_back.ensures.lies c.push_back.ensures.values c.push_back.ensures.others c.put_chain.ensures.parts c.set_branch.ensures.parts
    c.take_chain-chain.ensures.others c.put_chain.ensures.others c.set_branch.ensures.others
