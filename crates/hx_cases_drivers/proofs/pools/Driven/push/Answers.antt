use Rattle.std.proofs.Common.{[], ◌∷◌, ◌++◌, sym, ap, ◌∙◌, subst}
use Rattle.hx_cases_drivers.specs.declared.pools.Entry.{Entry}
use Rattle.hx_pool.specs.Chain.{LiesIn}
use Rattle.hx_pool.proofs.LyingLemmas.{lies_taken}
use Rattle.hx_cases_drivers.proofs.pools.Driven.push.Goals as goal

pub push_back-requires-clause-lies : goal.push_back-requires-clause-lies
push_back-requires-clause-lies g c =
    let items = c.self.inside.order.items in
    let taken = lies_taken (λ (entry : Entry). entry.links) c.self.inside.pool c.reserve-2.new.self c.take-id.new.self c.self.inside.chain items c.take-id.result _ c.self.invariant c.reserve-2.ensures.values c.take-id.ensures.was_free c.take-id.ensures.updates in
    (items, taken.0, taken.1)

pub invariant_of-self-2 : goal.invariant_of-self-2
invariant_of-self-2 g c =
    let items = c.self.inside.order.items in
    let taken = lies_taken (λ (entry : Entry). entry.links) c.self.inside.pool c.reserve-2.new.self c.take-id.new.self c.self.inside.chain items c.take-id.result _ c.self.invariant c.reserve-2.ensures.values c.take-id.ensures.was_free c.take-id.ensures.updates in
    let order = c.push_reserved.ensures.items ∙ ap (λ l. l ++ c.take-id.result ∷ []) c.reserve.ensures.items in
    subst (LiesIn (λ (entry : Entry). entry.links) c.push_back.new.pool c.push_back.new.self) (sym order) (c.push_back.ensures.lies items taken.0 taken.1)
