use Rattle.std.proofs.Common.{[]}
use Rattle.hx_ebtree.proofs.NodeLemmas.{kept_on, kept_relinked}
use Rattle.hx_ebtree.proofs.PushLemmas.{puts_leaf, puts_leaf_others}
use Rattle.hx_ebtree.proofs.insert.put_leaf.Goals as goal

pub push_back-requires-clause-lies : goal.push_back-requires-clause-lies
push_back-requires-clause-lies g c = ([], c.new-chain.ensures _, λ p. p)

pub returns-clause-parts : goal.returns-clause-parts
returns-clause-parts g c =
    puts_leaf c.args.pool.now c.push_back.new.pool c.set_leaf.new.pool c.args.id c.push_back.new.self c.args.up c.args.branch
    (c.push_back.ensures.lies [] (c.new-chain.ensures _) (λ p. p)) c.push_back.ensures.values (c.push_back.ensures.others [] (c.new-chain.ensures _)) c.set_leaf.ensures.parts

pub returns-clause-kept : goal.returns-clause-kept
returns-clause-kept g c =
    kept_on c.args.pool.now c.push_back.new.pool c.set_leaf.new.pool (kept_relinked c.args.pool.now c.push_back.new.pool c.push_back.ensures.values) c.set_leaf.ensures.kept

pub returns-clause-others : goal.returns-clause-others
returns-clause-others g c =
    puts_leaf_others c.args.pool.now c.push_back.new.pool c.set_leaf.new.pool c.args.id (c.push_back.ensures.others [] (c.new-chain.ensures _)) c.set_leaf.ensures.others
