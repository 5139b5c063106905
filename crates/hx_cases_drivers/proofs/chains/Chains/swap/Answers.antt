use Rattle.std.proofs.Common.{sym, subst}
use Rattle.hx_pool.specs.declared.chain.Chain.{Chain}
use Rattle.hx_pool.specs.Chain.{LiesIn}
use Rattle.hx_cases_drivers.specs.declared.chains.Item.{Item}
use Rattle.hx_cases_drivers.proofs.WalkLemmas.{apart_back}
use Rattle.hx_cases_drivers.proofs.chains.Chains.swap.Goals as goal

pub invariant_of-self : goal.invariant_of-self
invariant_of-self c =
    let s = c.self.invariant in (
      s.1,
      s.0,
      subst (λ (d : Chain). LiesIn (λ (item : Item). item.links) c.self.inside.pool d s.1) (sym c.swap.ensures.x_after) s.3,
      subst (λ (d : Chain). LiesIn (λ (item : Item). item.links) c.self.inside.pool d s.0) (sym c.swap.ensures.y_after) s.2,
      apart_back s.0 s.1 s.4,
    )
