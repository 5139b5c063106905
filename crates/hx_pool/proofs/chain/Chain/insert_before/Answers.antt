use Rattle.std.proofs.Common.{inl, inr, refl, ◌∷◌, Some, sym, ◌∙◌}
use Rattle.hx_pool.specs.Chain.{links_at}
use Rattle.hx_pool.proofs.ChainLemmas.{in_left, in_right, last_none_in}
use Rattle.hx_pool.proofs.ChainSteps.{lies_live, prev_live, read_links, lies_apart}
use Rattle.hx_pool.proofs.LinkingLemmas.{lies_link}
use Rattle.hx_pool.proofs.chain.Chain.insert_before.Goals as goal

pub get-requires : goal.get-requires
get-requires g c =
    let r = c.requires.lies in
    lies_live g.T.Linked.links_of c.args.pool.now c.args.self.now _ c.args.at r.2 (in_right r.0 (c.args.at ∷ r.1) c.args.at (inl refl))

pub link-requires-clause-prev : goal.link-requires-clause-prev
link-requires-clause-prev g c x e =
    let r = c.requires.lies in
    prev_live g.T.Linked.links_of c.args.pool.now c.args.self.now r.0 c.args.at r.1 c.get.result.now c.links-prev.result x r.2 c.get.ensures.value c.links-prev.ensures e

pub returns-clause-lies : goal.returns-clause-lies
returns-clause-lies g c xs ys lies off =
    let is = read_links g.T.Linked.links_of c.args.pool.now c.args.self.now xs c.args.at ys c.get.result.now c.links-prev.result lies c.get.ensures.value c.links-prev.ensures in
    lies_link (links_at g.T.Linked.links_of c.args.pool.now) (links_at g.T.Linked.links_of c.link.new.pool) c.args.self.now c.link.new.self xs c.args.id (c.args.at ∷ ys)
    c.links-prev.result.prev (Some c.args.at) is.0 refl c.link.ensures.parts off lies

pub returns-clause-others : goal.returns-clause-others
returns-clause-others g c xs ys lies k off =
    let is = read_links g.T.Linked.links_of c.args.pool.now c.args.self.now xs c.args.at ys c.get.result.now c.links-prev.result lies c.get.ensures.value c.links-prev.ensures in
    c.link.ensures.others k (λ e. off (inl e))
    (λ e. off (inr (in_left xs (c.args.at ∷ ys) k (last_none_in xs k (sym is.0 ∙ e)))))
    (λ e. off (inr (in_right xs (c.args.at ∷ ys) k (inl (cc)))))

pub returns-clause-apart : goal.returns-clause-apart
returns-clause-apart g c xs ys zs d lies apart other =
    lies_apart g.T.Linked.links_of c.args.pool.now c.link.new.pool d zs (λ k there. returns-clause-others g c xs ys lies k (λ here. apart k there here)) other
