use Rattle.std.proofs.Common.{sym, subst}
use Rattle.hx_cases_drivers.specs.declared.pools.Entry.{Entry}
use Rattle.hx_pool.specs.Chain.{LiesIn, links_at}
use Rattle.hx_cases_drivers.proofs.pools.Driven.new.Goals as goal

pub invariant_of-result : goal.invariant_of-result
invariant_of-result c =
    let links = λ (entry : Entry). entry.links in
    subst (LiesIn links c.new.result c.new-2.result) (sym c.new-3.ensures.items) (c.new-2.ensures (links_at links c.new.result))
