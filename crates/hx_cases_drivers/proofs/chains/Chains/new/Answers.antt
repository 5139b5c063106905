use Rattle.std.proofs.Common.{[]}
use Rattle.hx_pool.specs.Chain.{links_at}
use Rattle.hx_cases_drivers.specs.declared.chains.Item.{Item}
use Rattle.hx_cases_drivers.proofs.chains.Chains.new.Goals as goal

pub invariant_of-result : goal.invariant_of-result
invariant_of-result c =
    let links = links_at (λ (item : Item). item.links) c.new.result in
    ([], [], c.new-2.ensures links, c.new-3.ensures links, λ k p q. absurd p)
