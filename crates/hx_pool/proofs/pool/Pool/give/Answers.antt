use Rattle.std.proofs.Common.{Some, None, sym, ap, ◌∙◌, arith}
use Rattle.std.proofs.lemmas.List.{map-set, length-map}
use Rattle.std.proofs.lemmas.Option.{slice_get_within}
use Rattle.hx_pool.specs.declared.slot.Slot.TheVariants.{Free, Live}
use Rattle.hx_pool.specs.Slots.{value_of}
use Rattle.hx_pool.proofs.SlotLemmas.{live_slot, value_read, count_set, IsPool-give}
use Rattle.hx_pool.proofs.PoolLemmas.{Updates-set}
use Rattle.hx_pool.proofs.pool.Pool.give.Goals as goal

pub overflow_add-self : goal.overflow_add-self
overflow_add-self g c =
    let counted = c.self.invariant.counted in let few = c.self.invariant.few in
    record { fits = omega arith }

pub invariant_of-self : goal.invariant_of-self
invariant_of-self g c =
    let found = c.get_mut.ensures.value ∙ ap Some (sym c.replace.ensures.value ∙ c.in-Live.is) in
    rw c.replace.ensures.after (IsPool-give c.self.inside.slots.0 c.self.inside.slots.1 c.self.inside.free c.self.inside.fresh c.args.id c.self.inside.first_free c.in-Live.value c.self.invariant found)

pub unreachable-requires : goal.unreachable-requires
unreachable-requires g c =
    let found = live_slot c.self.inside.slots.0 c.args.id (rw (← c.self.view_is) at c.requires) in
    let live = found.1 in let read = c.get_mut.ensures.value in let moved = c.replace.ensures.value in
    cc

pub returns-clause-value : goal.returns-clause-value
returns-clause-value g c =
    let found = c.get_mut.ensures.value ∙ ap Some (sym c.replace.ensures.value ∙ c.in-Live.is) in
    rw (← c.self.view_is) (value_read c.self.inside.slots.0 c.args.id _ found)

pub returns-clause-updates : goal.returns-clause-updates
returns-clause-updates g c =
    let within = slice_get_within c.self.inside.slots.0 c.args.id _ c.get_mut.ensures.value in
    rw (← c.self.view_is) (Updates-set _ _ c.args.id None (omega (arith, length-map c.self.inside.slots.0 value_of)) (rw (c.replace.ensures.after, map-set)))

pub returns-clause-live : goal.returns-clause-live
returns-clause-live g c =
    let found = c.get_mut.ensures.value ∙ ap Some (sym c.replace.ensures.value ∙ c.in-Live.is) in
    let counted = count_set c.self.inside.slots.0 c.args.id (Live c.in-Live.value) (Free c.self.inside.first_free) found in
    rw (← c.self.view_is, c.replace.ensures.after) (omega arith)

pub returns-clause-total : goal.returns-clause-total
returns-clause-total g c =
    let found = c.get_mut.ensures.value ∙ ap Some (sym c.replace.ensures.value ∙ c.in-Live.is) in
    let counted = count_set c.self.inside.slots.0 c.args.id (Live c.in-Live.value) (Free c.self.inside.first_free) found in
    rw (← c.self.view_is, c.replace.ensures.after) (omega arith)
