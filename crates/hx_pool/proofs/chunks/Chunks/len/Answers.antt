use Rattle.std.proofs.Common.{sym}
use Rattle.hx_pool.proofs.ChunkLemmas.{flat_length}
use Rattle.hx_pool.proofs.chunks.Chunks.len.Goals as goal

pub returns : goal.returns
returns g c = rw (← c.self.view_is) (sym (flat_length c.self.inside.chunks.items c.self.inside.len c.self.invariant.packed))
