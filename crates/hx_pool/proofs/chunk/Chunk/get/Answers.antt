use Rattle.std.proofs.Common.{sym, ◌∙◌, arith}
use Rattle.hx_pool.proofs.PlaceLemmas.{filled_count, filled_read, filled_holds}
use Rattle.hx_pool.proofs.chunk.Chunk.get.Goals as goal

pub get-requires : goal.get-requires
get-requires g c =
    let values = c.self.inside.places.values in let used = c.self.inside.used in let filled = c.self.invariant.filled in
    let within = rw (← c.self.view_is) at c.requires in
    (sym c.self.invariant.starts, filled_holds values used c.args.index filled (omega (arith, filled_count values used filled)))

pub returns : goal.returns
returns g c =
    let values = c.self.inside.places.values in let used = c.self.inside.used in let filled = c.self.invariant.filled in
    let within = rw (← c.self.view_is) at c.requires in
    rw (← c.self.view_is) (sym (filled_read values used c.args.index filled (omega (arith, filled_count values used filled))) ∙ c.get.ensures)
