use Rattle.std.proofs.Common.{inl, refl, ◌∷◌}
use Rattle.hx_pool.proofs.ChainLemmas.{in_right}
use Rattle.hx_pool.proofs.ChainSteps.{lies_live, read_links}
use Rattle.hx_pool.proofs.chain.Chain.next.Goals as goal

pub get-requires : goal.get-requires
get-requires g c =
    let r = c.requires in
    lies_live g.T.Linked.links_of c.args.pool.now c.args.self.now _ c.args.id r.2 (in_right r.0 (c.args.id ∷ r.1) c.args.id (inl refl))

pub returns-clause-next : goal.returns-clause-next
returns-clause-next g c xs ys lies =
    (read_links g.T.Linked.links_of c.args.pool.now c.args.self.now xs c.args.id ys c.get.result.now c.links.result lies c.get.ensures.value c.links.ensures).1
