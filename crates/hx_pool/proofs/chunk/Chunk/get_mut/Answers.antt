use Rattle.std.proofs.Common.{◌<◌, refl, sym, ◌∙◌, arith, length-set}
use Rattle.hx_pool.proofs.PlaceLemmas.{filled_count, filled_read, filled_holds, filled_set}
use Rattle.hx_pool.proofs.chunk.Chunk.get_mut.Goals as goal

pub get_mut-requires : goal.get_mut-requires
get_mut-requires g c =
    let values = c.self.inside.places.values in let used = c.self.inside.used in let filled = c.self.invariant.filled in
    let within = rw (← c.self.view_is) at c.requires in
    (sym c.self.invariant.starts, filled_holds values used c.args.index filled (omega (arith, filled_count values used filled)))

pub invariant_of-self-lent : goal.invariant_of-self-lent
invariant_of-self-lent g c w =
    let values = c.self.inside.places.values in let used = c.self.inside.used in let filled = c.self.invariant.filled in
    let within = rw (← c.self.view_is) at c.requires in
    record {
      starts = c.self.invariant.starts;
      claims = c.self.invariant.claims;
      counted = c.self.invariant.counted;
      giver = c.self.invariant.giver;
      whole = rw length-set c.self.invariant.whole;
      filled = (filled_set values used c.args.index w filled (omega (arith, filled_count values used filled))).0;
    }

pub returns : goal.returns
returns g c =
    let values = c.self.inside.places.values in let used = c.self.inside.used in let filled = c.self.invariant.filled in
    let within = rw (← c.self.view_is) at c.requires in
    let below : c.args.index < used = omega (arith, filled_count values used filled) in (
      (refl, λ w. rw (← c.self.view_is) (filled_set values used c.args.index w filled below).1),
      record { writes_back = tt; value = rw (← c.self.view_is) (sym (filled_read values used c.args.index filled below) ∙ c.get_mut.ensures.value) },
    )
