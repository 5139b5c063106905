use Rattle.std.proofs.Common.{sym, ◌∙◌}
use Rattle.hx_pool.specs.Chain.{links_at}
use Rattle.hx_pool.proofs.ChainLemmas.{in_left, in_right, last_none_in, first_in}
use Rattle.hx_pool.proofs.ChainSteps.{last_live, first_live, lies_apart, still_live, relinked_on}
use Rattle.hx_pool.proofs.LinkingLemmas.{lies_append}
use Rattle.hx_pool.proofs.chain.Chain.append.Goals as goal

pub set_next-requires : goal.set_next-requires
set_next-requires g c x e =
    let r = c.requires in
    last_live g.T.Linked.links_of c.args.pool.now c.args.self.now r.0 x r.2 e

pub set_prev-requires : goal.set_prev-requires
set_prev-requires g c x e =
    let r = c.requires in
    still_live g.T.Linked.same c.args.pool.now c.set_next.new.pool x c.set_next.ensures.values
    (first_live g.T.Linked.links_of c.args.pool.now c.args.other r.1 x r.3 e)

pub returns-clause-lies : goal.returns-clause-lies
returns-clause-lies g c xs ys lies more apart =
    lies_append (links_at g.T.Linked.links_of c.args.pool.now) (links_at g.T.Linked.links_of c.set_next.new.pool) (links_at g.T.Linked.links_of c.set_prev.new.pool)
    c.args.self.now c.args.other (record { first = c.set_next.new.self.first; last = c.set_prev.new.self.last }) xs ys c.set_next.ensures.links c.set_prev.ensures.links
    c.set_next.ensures.first c.set_prev.ensures.last apart lies more

pub returns-clause-values : goal.returns-clause-values
returns-clause-values g c =
    relinked_on g.T.Linked.same g.met.T.Linked.same_on c.args.pool.now c.set_next.new.pool c.set_prev.new.pool c.set_next.ensures.values c.set_prev.ensures.values

pub returns-clause-others : goal.returns-clause-others
returns-clause-others g c xs ys lies more k off =
    c.set_prev.ensures.others k (λ e. off (in_right xs ys k (first_in ys k (sym more.first ∙ e))))
    ∙ c.set_next.ensures.others k (λ e. off (in_left xs ys k (last_none_in xs k (sym lies.last ∙ e))))

pub returns-clause-apart : goal.returns-clause-apart
returns-clause-apart g c xs ys zs d lies more apart other =
    lies_apart g.T.Linked.links_of c.args.pool.now c.set_prev.new.pool d zs (λ k there. returns-clause-others g c xs ys lies more k (λ here. apart k there here)) other
