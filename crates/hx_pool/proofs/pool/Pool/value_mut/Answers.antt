use Rattle.std.proofs.Common.{refl, ◌∙◌}
use Rattle.std.proofs.lemmas.List.{map-set}
use Rattle.hx_pool.proofs.SlotLemmas.{live_slot, value_read, IsPool-write}
use Rattle.hx_pool.proofs.pool.Pool.value_mut.Goals as goal

pub invariant_of-self-lent : goal.invariant_of-self-lent
invariant_of-self-lent g c w =
    let found = live_slot c.self.inside.slots.0 c.args.id (rw (← c.self.view_is) at c.requires) in
    IsPool-write c.self.inside.slots.0 c.self.inside.slots.1 c.self.inside.free c.self.inside.fresh c.args.id c.self.inside.first_free found.0 w c.self.invariant found.1

pub returns : goal.returns
returns g c =
    let read = value_read c.self.inside.slots.0 c.args.id c.get_mut.result.now c.get_mut.ensures.value in (
      (refl, λ w. rw (← c.self.view_is, map-set)),
      record { writes_back = tt; value = rw (← c.self.view_is) (read ∙ c.value_mut.ensures.value) },
    )
