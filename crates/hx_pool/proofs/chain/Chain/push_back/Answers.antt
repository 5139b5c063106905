use Rattle.std.proofs.Common.{[], refl, None, sym, ◌∙◌, inl, inr}
use Rattle.std.proofs.lemmas.List.{append-nil}
use Rattle.hx_pool.specs.Chain.{links_at}
use Rattle.hx_pool.proofs.ChainSteps.{last_live, lies_apart}
use Rattle.hx_pool.proofs.ChainLemmas.{last_none_in}
use Rattle.hx_pool.proofs.LinkingLemmas.{lies_link}
use Rattle.hx_pool.proofs.chain.Chain.push_back.Goals as goal

pub link-requires-clause-prev : goal.link-requires-clause-prev
link-requires-clause-prev g c x e =
    let r = c.requires.lies in
    last_live g.T.Linked.links_of c.args.pool.now c.args.self.now r.0 x r.1 e

pub returns-clause-lies : goal.returns-clause-lies
returns-clause-lies g c xs lies off =
    lies_link (links_at g.T.Linked.links_of c.args.pool.now) (links_at g.T.Linked.links_of c.link.new.pool) c.args.self.now c.link.new.self xs c.args.id []
    c.args.self.now.last None lies.last refl c.link.ensures.parts (rw append-nil off) (rw append-nil lies)

pub returns-clause-others : goal.returns-clause-others
returns-clause-others g c xs lies k off =
    c.link.ensures.others k (λ e. off (inl e)) (λ e. off (inr (last_none_in xs k (sym lies.last ∙ e)))) (λ e. cc)

pub returns-clause-apart : goal.returns-clause-apart
returns-clause-apart g c xs zs d lies apart other =
    lies_apart g.T.Linked.links_of c.args.pool.now c.link.new.pool d zs (λ k there. returns-clause-others g c xs lies k (λ here. apart k there here)) other
