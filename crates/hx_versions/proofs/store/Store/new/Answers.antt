use Rattle.std.proofs.Common.{arith}
use Rattle.hx_versions.specs.declared.pools.Pools.{Pools}
use Rattle.hx_versions.proofs.StoreCallLemmas.{new_store}
use Rattle.hx_versions.proofs.store.Store.new.Goals as goal

pub invariant_of-result : goal.invariant_of-result
invariant_of-result c =
    let pools : Pools = record { entries = c.new.result; versions = c.new-2.result; nodes = c.new-3.result } in
    rw (c.new-4.ensures.items)
    (new_store pools c.new-5.result c.new-5.ensures (omega (arith, c.new-2.ensures.total)) (omega (arith, c.new.ensures.total)) (omega (arith, c.new-3.ensures.total)))
