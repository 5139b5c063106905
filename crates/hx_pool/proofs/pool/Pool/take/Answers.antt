use Rattle.std.proofs.Common.{◌∷◌, [], map, None, Some, sym, ap, ◌∙◌, arith}
use Rattle.std.proofs.lemmas.List.{map-set, map-append, length-map, get_or_past}
use Rattle.std.proofs.lemmas.Option.{slice_get_within}
use Rattle.hx_pool.specs.declared.slot.Slot.TheVariants.{Free, Live}
use Rattle.hx_pool.specs.Slots.{value_of}
use Rattle.hx_pool.proofs.SlotLemmas.{count_set, count_live, some_fresh, IsPool-take, IsPool-push}
use Rattle.hx_pool.proofs.PoolLemmas.{Updates-set, Updates-push}
use Rattle.hx_pool.proofs.pool.Pool.take.Goals as goal

pub invariant_of-self : goal.invariant_of-self
invariant_of-self g c =
    let found = c.get_mut.ensures.value ∙ ap Some (sym c.replace.ensures.value ∙ c.in-Free.is) in
    rw c.replace.ensures.after (IsPool-take c.self.inside.slots.0 c.self.inside.slots.1 c.self.inside.free c.self.inside.fresh c.in-Some.id c.self.inside.first_free c.in-Free.next c.args.value c.self.invariant c.in-Some.is found).0

pub overflow_sub-self : goal.overflow_sub-self
overflow_sub-self g c =
    let found = c.get_mut.ensures.value ∙ ap Some (sym c.replace.ensures.value ∙ c.in-Free.is) in
    let some = (IsPool-take c.self.inside.slots.0 c.self.inside.slots.1 c.self.inside.free c.self.inside.fresh c.in-Some.id c.self.inside.first_free c.in-Free.next c.args.value c.self.invariant c.in-Some.is found).1 in
    omega arith

pub returns-in-Free-clause-updates : goal.returns-in-Free-clause-updates
returns-in-Free-clause-updates g c =
    let within = slice_get_within c.self.inside.slots.0 c.in-Some.id _ c.get_mut.ensures.value in
    rw (← c.self.view_is) (Updates-set _ _ c.in-Some.id (Some c.args.value) (omega (arith, length-map c.self.inside.slots.0 value_of)) (rw (c.replace.ensures.after, map-set)))

pub returns-in-Free-clause-live : goal.returns-in-Free-clause-live
returns-in-Free-clause-live g c =
    let found = c.get_mut.ensures.value ∙ ap Some (sym c.replace.ensures.value ∙ c.in-Free.is) in
    let counted = count_set c.self.inside.slots.0 c.in-Some.id (Free c.in-Free.next) (Live c.args.value) found in
    rw (← c.self.view_is, c.replace.ensures.after) (omega arith)

pub returns-in-Free-clause-total : goal.returns-in-Free-clause-total
returns-in-Free-clause-total g c =
    let found = c.get_mut.ensures.value ∙ ap Some (sym c.replace.ensures.value ∙ c.in-Free.is) in
    let counted = count_set c.self.inside.slots.0 c.in-Some.id (Free c.in-Free.next) (Live c.args.value) found in
    let some = (IsPool-take c.self.inside.slots.0 c.self.inside.slots.1 c.self.inside.free c.self.inside.fresh c.in-Some.id c.self.inside.first_free c.in-Free.next c.args.value c.self.invariant c.in-Some.is found).1 in
    rw (← c.self.view_is, c.replace.ensures.after) (omega arith)

pub push-requires : goal.push-requires
push-requires g c =
    let some = some_fresh c.self.inside.slots.0 c.self.inside.slots.1 c.self.inside.free c.self.inside.fresh c.self.inside.first_free c.self.invariant c.in-None.is (rw (← c.self.view_is) at c.requires) in
    let ready = c.self.invariant.ready in
    omega (arith, some.1)

pub overflow_sub-self-in-None : goal.overflow_sub-self-in-None
overflow_sub-self-in-None g c =
    let some = some_fresh c.self.inside.slots.0 c.self.inside.slots.1 c.self.inside.free c.self.inside.fresh c.self.inside.first_free c.self.invariant c.in-None.is (rw (← c.self.view_is) at c.requires) in
    omega (arith, some.1)

pub invariant_of-self-in-None : goal.invariant_of-self-in-None
invariant_of-self-in-None g c =
    let some = some_fresh c.self.inside.slots.0 c.self.inside.slots.1 c.self.inside.free c.self.inside.fresh c.self.inside.first_free c.self.invariant c.in-None.is (rw (← c.self.view_is) at c.requires) in
    rw c.push.ensures.slots (IsPool-push c.self.inside.slots.0 c.self.inside.slots.1 _ c.self.inside.free c.self.inside.fresh c.self.inside.first_free c.args.value c.self.invariant c.push.ensures.room some.1)

pub returns-in-None-clause-was_free : goal.returns-in-None-clause-was_free
returns-in-None-clause-was_free g c =
    let long = length-map c.self.inside.slots.0 value_of in
    let past = c.len-id.ensures in
    rw (← c.self.view_is) (get_or_past (map value_of c.self.inside.slots.0) c.len-id.result None (omega arith))

pub returns-in-None-clause-updates : goal.returns-in-None-clause-updates
returns-in-None-clause-updates g c =
    rw (← c.self.view_is) (Updates-push _ _ c.len-id.result (Some c.args.value) (c.len-id.ensures ∙ sym (length-map c.self.inside.slots.0 value_of))
    (ap (λ slots. map value_of slots) c.push.ensures.slots ∙ map-append value_of c.self.inside.slots.0 (Live c.args.value ∷ [])))

pub returns-in-None-clause-spare : goal.returns-in-None-clause-spare
returns-in-None-clause-spare g c =
    let some = some_fresh c.self.inside.slots.0 c.self.inside.slots.1 c.self.inside.free c.self.inside.fresh c.self.inside.first_free c.self.invariant c.in-None.is (rw (← c.self.view_is) at c.requires) in
    rw (← c.self.view_is) (omega (arith, some.1))

pub returns-in-None-clause-live : goal.returns-in-None-clause-live
returns-in-None-clause-live g c = rw (← c.self.view_is, c.push.ensures.slots) (count_live c.self.inside.slots.0 c.args.value)

pub returns-in-None-clause-total : goal.returns-in-None-clause-total
returns-in-None-clause-total g c =
    let some = some_fresh c.self.inside.slots.0 c.self.inside.slots.1 c.self.inside.free c.self.inside.fresh c.self.inside.first_free c.self.invariant c.in-None.is (rw (← c.self.view_is) at c.requires) in
    let counted = count_live c.self.inside.slots.0 c.args.value in
    rw (← c.self.view_is, c.push.ensures.slots) (omega (arith, some.1))
