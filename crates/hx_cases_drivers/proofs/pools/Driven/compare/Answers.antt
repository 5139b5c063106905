use Rattle.std.proofs.Common.{suc, take, drop, subst, arith}
use Rattle.hx_cases_drivers.specs.declared.pools.Entry.{Entry}
use Rattle.hx_pool.specs.Chain.{LiesIn}
use Rattle.hx_pool.proofs.LyingLemmas.{lies_live, about, in_about}
use Rattle.hx_cases_drivers.proofs.pools.Driven.compare.Goals as goal

pub get-requires-in-loop-index : goal.get-requires-in-loop-index
get-requires-in-loop-index g c =
    let items = c.self.inside.order.items in let index = c.loop-index.index in let id = c.index-id.result.now in
    let test = c.loop-index-test.true in let long = c.len-index-end.ensures in let counted = c.self.inside.order.ok in
    let split = about items index id (omega arith) c.index-id.ensures in
    lies_live (λ (entry : Entry). entry.links) c.self.inside.pool c.self.inside.chain items id c.self.invariant (in_about items (take index items) (drop (suc index) items) id split)

pub next-next-requires : goal.next-next-requires
next-next-requires g c =
    let items = c.self.inside.order.items in let index = c.loop-index.index in let id = c.index-id.result.now in
    let test = c.loop-index-test.true in let long = c.len-index-end.ensures in let counted = c.self.inside.order.ok in
    let split = about items index id (omega arith) c.index-id.ensures in
    (take index items, drop (suc index) items, subst (LiesIn (λ (entry : Entry). entry.links) c.self.inside.pool c.self.inside.chain) split c.self.invariant)
