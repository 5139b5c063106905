use Rattle.std.proofs.Common.{◌≡◌, ◌+◌, suc, set, Some, sym, ap, ◌∙◌, subst, arith, length-set}
use Rattle.hx_pool.specs.Memory.{values_in, IsFilled}
use Rattle.hx_pool.proofs.PlaceLemmas.{filled_count, filled_room, filled_push}
use Rattle.hx_pool.proofs.chunk.Chunk.push.Goals as goal

pub write-requires : goal.write-requires
write-requires g c =
    let values = c.self.inside.places.values in let used = c.self.inside.used in let filled = c.self.invariant.filled in
    let room = rw (← c.self.view_is) at c.requires in let whole = c.self.invariant.whole in
    (sym c.self.invariant.starts, omega (arith, filled_count values used filled), filled_room values used filled)

pub overflow_add-self : goal.overflow_add-self
overflow_add-self g c =
    let values = c.self.inside.places.values in let used = c.self.inside.used in let filled = c.self.invariant.filled in
    let room = rw (← c.self.view_is) at c.requires in
    record { fits = omega (arith, filled_count values used filled) }

pub invariant_of-self : goal.invariant_of-self
invariant_of-self g c =
    let values = c.self.inside.places.values in let used = c.self.inside.used in let filled = c.self.invariant.filled in
    let room = rw (← c.self.view_is) at c.requires in let whole = c.self.invariant.whole in
    let pushed = filled_push values used c.args.slot filled (omega (arith, filled_count values used filled)) in
    let next : suc used ≡ used + 1 = omega arith in
    record {
      starts = c.write.ensures.0 ∙ c.self.invariant.starts;
      claims = c.self.invariant.claims;
      counted = c.self.invariant.counted;
      giver = c.self.invariant.giver;
      whole = rw (c.write.ensures.1, length-set) whole;
      filled = rw c.write.ensures.1 (subst (IsFilled (set values used (Some c.args.slot))) next pushed.0);
    }

pub returns : goal.returns
returns g c =
    let values = c.self.inside.places.values in let used = c.self.inside.used in let filled = c.self.invariant.filled in
    let room = rw (← c.self.view_is) at c.requires in let whole = c.self.invariant.whole in
    let pushed = filled_push values used c.args.slot filled (omega (arith, filled_count values used filled)) in
    rw (← c.self.view_is) (ap values_in c.write.ensures.1 ∙ pushed.1)
