use Rattle.std.proofs.Common.{◌≡◌, suc, ◌++◌, take, drop, None, sym, subst}
use Rattle.hx_cases_drivers.specs.declared.pools.Entry.{Entry}
use Rattle.hx_pool.specs.Chain.{LiesIn}
use Rattle.hx_pool.proofs.LyingLemmas.{lies_updated, lies_live, relinked_live, distinct_off, about, in_about}
use Rattle.hx_cases_drivers.proofs.pools.Driven.remove.Goals as goal

pub unlink-requires : goal.unlink-requires
unlink-requires g c =
    let items = c.self.inside.order.items in let index = c.args.index in let id = c.remove-id.result in
    let split = about items index id (rw (← c.self.view_is) at c.requires) c.remove-id.ensures.value in
    (take index items, drop (suc index) items, subst (LiesIn (λ (entry : Entry). entry.links) c.self.inside.pool c.self.inside.chain) split c.self.invariant)

pub give-requires : goal.give-requires
give-requires g c =
    let items = c.self.inside.order.items in let index = c.args.index in let id = c.remove-id.result in
    let split = about items index id (rw (← c.self.view_is) at c.requires) c.remove-id.ensures.value in
    let live = lies_live (λ (entry : Entry). entry.links) c.self.inside.pool c.self.inside.chain items id c.self.invariant (in_about items (take index items) (drop (suc index) items) id split) in
    relinked_live (λ (x y : Entry). x.key ≡ y.key) c.self.inside.pool c.unlink.new.pool id c.unlink.ensures.values live

pub invariant_of-self : goal.invariant_of-self
invariant_of-self g c =
    let items = c.self.inside.order.items in let index = c.args.index in let id = c.remove-id.result in
    let before = take index items in let after = drop (suc index) items in
    let split = about items index id (rw (← c.self.view_is) at c.requires) c.remove-id.ensures.value in
    let links = λ (entry : Entry). entry.links in
    let lies = subst (LiesIn links c.self.inside.pool c.self.inside.chain) split c.self.invariant in
    let left = c.unlink.ensures.lies before after lies in
    let given = lies_updated links c.unlink.new.pool c.give.new.self c.unlink.new.self (before ++ after) id None left (distinct_off before id after lies.distinct) c.give.ensures.updates in
    subst (LiesIn links c.give.new.self c.unlink.new.self) (sym c.remove-id.ensures.items) given
