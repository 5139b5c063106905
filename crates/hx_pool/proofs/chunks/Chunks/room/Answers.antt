use Rattle.std.proofs.Common.{arith}
use Rattle.hx_pool.proofs.ChunkLemmas.{packed_most, flat_length}
use Rattle.hx_pool.proofs.chunks.Chunks.room.Goals as goal

pub overflow_sub-result : goal.overflow_sub-result
overflow_sub-result g c =
    let most = packed_most c.self.inside.chunks.items c.self.inside.len c.self.invariant.packed in
    let counted = c.self.inside.chunks.ok in
    omega arith

pub returns-clause-few : goal.returns-clause-few
returns-clause-few g c =
    let most = packed_most c.self.inside.chunks.items c.self.inside.len c.self.invariant.packed in
    let long = flat_length c.self.inside.chunks.items c.self.inside.len c.self.invariant.packed in
    let few = c.self.invariant.few in
    let counted = c.self.inside.chunks.ok in
    rw (← c.self.view_is) (omega arith)
