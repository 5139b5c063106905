use Rattle.std.proofs.Common.{inl, inr, refl, ◌∷◌, sym, ◌∙◌}
use Rattle.hx_pool.specs.Chain.{links_at}
use Rattle.hx_pool.proofs.ChainLemmas.{in_left, in_right, in_either, last_none_in, first_in}
use Rattle.hx_pool.proofs.ChainSteps.{lies_live, prev_live, next_live, read_links, lies_apart, still_live}
use Rattle.hx_pool.proofs.LinkingLemmas.{lies_unlink}
use Rattle.hx_pool.proofs.chain.Chain.unlink.Goals as goal

pub get-requires : goal.get-requires
get-requires g c =
    let r = c.requires in
    lies_live g.T.Linked.links_of c.args.pool.now c.args.self.now _ c.args.id r.2 (in_right r.0 (c.args.id ∷ r.1) c.args.id (inl refl))

pub set_next-requires : goal.set_next-requires
set_next-requires g c x e =
    let r = c.requires in
    prev_live g.T.Linked.links_of c.args.pool.now c.args.self.now r.0 c.args.id r.1 c.get.result.now c.links-links.result x r.2 c.get.ensures.value c.links-links.ensures e

pub set_prev-requires : goal.set_prev-requires
set_prev-requires g c x e =
    let r = c.requires in
    still_live g.T.Linked.same c.args.pool.now c.set_next.new.pool x c.set_next.ensures.values
    (next_live g.T.Linked.links_of c.args.pool.now c.args.self.now r.0 c.args.id r.1 c.get.result.now c.links-links.result x r.2 c.get.ensures.value c.links-links.ensures e)

pub returns-clause-lies : goal.returns-clause-lies
returns-clause-lies g c xs ys lies =
    let is = read_links g.T.Linked.links_of c.args.pool.now c.args.self.now xs c.args.id ys c.get.result.now c.links-links.result lies c.get.ensures.value c.links-links.ensures in
    lies_unlink (links_at g.T.Linked.links_of c.args.pool.now) (links_at g.T.Linked.links_of c.set_next.new.pool) (links_at g.T.Linked.links_of c.set_prev.new.pool)
    c.args.self.now c.set_prev.new.self xs c.args.id ys c.links-links.result.prev c.links-links.result.next is.0 is.1 c.set_next.ensures.links c.set_prev.ensures.links
    (c.set_prev.ensures.first ∙ c.set_next.ensures.first) (rw (c.set_prev.ensures.last, c.set_next.ensures.last)) lies

pub returns-clause-others : goal.returns-clause-others
returns-clause-others g c xs ys lies k off =
    let is = read_links g.T.Linked.links_of c.args.pool.now c.args.self.now xs c.args.id ys c.get.result.now c.links-links.result lies c.get.ensures.value c.links-links.ensures in
    c.set_prev.ensures.others k (λ e. off (in_right xs ys k (first_in ys k (sym is.1 ∙ e))))
    ∙ c.set_next.ensures.others k (λ e. off (in_left xs ys k (last_none_in xs k (sym is.0 ∙ e))))

pub returns-clause-apart : goal.returns-clause-apart
returns-clause-apart g c xs ys zs d lies apart other =
    lies_apart g.T.Linked.links_of c.args.pool.now c.set_prev.new.pool d zs (λ k there. returns-clause-others g c xs ys lies k
    (λ here. elim (in_either xs ys k here) as (λ _. ⊥) [ inl p ↦ apart k there (in_left xs (c.args.id ∷ ys) k p) | inr p ↦ apart k there (in_right xs (c.args.id ∷ ys) k (inr p)) ])) other
