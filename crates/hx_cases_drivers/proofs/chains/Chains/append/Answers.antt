use Rattle.std.proofs.Common.{[], ◌++◌, sym, subst}
use Rattle.hx_pool.specs.declared.chain.Chain.{Chain}
use Rattle.hx_pool.specs.Chain.{LiesIn, links_at}
use Rattle.hx_cases_drivers.specs.declared.chains.Item.{Item}
use Rattle.hx_cases_drivers.proofs.chains.Chains.append.Goals as goal

pub append-requires : goal.append-requires
append-requires g c =
    let s = c.self.invariant in
    (s.0, s.1, s.2, subst (λ (d : Chain). LiesIn (λ (item : Item). item.links) c.self.inside.pool d s.1) (sym c.replace-other.ensures.value) s.3, s.4)

pub invariant_of-self : goal.invariant_of-self
invariant_of-self g c =
    let s = c.self.invariant in
    let other = subst (λ (d : Chain). LiesIn (λ (item : Item). item.links) c.self.inside.pool d s.1) (sym c.replace-other.ensures.value) s.3 in (
      s.0 ++ s.1,
      [],
      c.append.ensures.lies s.0 s.1 s.2 other s.4,
      subst (λ (d : Chain). LiesIn (λ (item : Item). item.links) c.append.new.pool d []) (sym c.replace-other.ensures.after) (c.new.ensures (links_at (λ (item : Item). item.links) c.append.new.pool)),
      λ k p q. absurd q,
    )
