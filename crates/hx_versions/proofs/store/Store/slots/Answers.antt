use Rattle.std.proofs.Common.{◌≡◌, ◌+◌, ap, arith}
use Rattle.hx_versions.specs.Rows.{kept_slots}
use Rattle.hx_versions.specs.Store.{seen_rows}
use Rattle.hx_versions.proofs.store.Store.slots.Goals as goal

pub returns : goal.returns
returns c =
    let s = c.self.inside in
    let live : c.live_count-versions.result + c.live_count-entries.result + c.live_count-nodes.result ≡ kept_slots (seen_rows s.pools s.rows.items) + s.waiting =
    omega (arith, c.live_count-versions.ensures, c.live_count-entries.ensures, c.live_count-nodes.ensures, c.self.invariant.counted.live) in
    rw (← c.self.view_is) (ap (λ used. record { used = used; retired = s.waiting }) live)
