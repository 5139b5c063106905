use Rattle.std.proofs.Common.{◌≡◌, ◌-◌, ap, arith, ◌∙◌}
use Rattle.hx_versions.specs.Store.{seen_rows}
use Rattle.hx_versions.proofs.StoreCallLemmas.{tidied_rows, tidied_store}
use Rattle.hx_versions.proofs.store.Store.tidy.Goals as goal

pub tidy-given-requires : goal.tidy-given-requires
tidy-given-requires g c = (c.self.invariant.gone, c.self.invariant.wait)

pub invariant_of-self : goal.invariant_of-self
invariant_of-self g c =
    let s = c.self.inside in
    let h = c.self.invariant in
    let step = c.tidy-given in
    let t = step.ensures.wait h.gone h.wait in
    tidied_store s.pools step.new.pools s.rows.items s.retired step.new.retired s.waiting s.filled step.result h step.ensures.others (s.waiting - step.result) t.0 step.ensures.spare step.ensures.live t.1 t.2
    (omega (arith, t.2, h.counted.waits))

pub returns : goal.returns
returns g c =
    let s = c.self.inside in
    let h = c.self.invariant in
    let step = c.tidy-given in
    let count = step.ensures.count h.gone h.wait in
    let fewer : s.waiting - step.result ≡ s.waiting - c.args.n = omega (arith, count, h.counted.waits) in
    rw (← c.self.view_is)
    (ap (λ rows. record { rows = rows; waiting = s.waiting - step.result }) (tidied_rows s.pools step.new.pools s.rows.items s.retired step.new.retired s.waiting s.filled step.result h step.ensures.others)
    ∙ ap (λ k. record { rows = seen_rows s.pools s.rows.items; waiting = k }) fewer)
