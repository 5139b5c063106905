use Rattle.std.proofs.Common.{arith, ◌/◌, length-set}
use Rattle.hx_pool.proofs.ChunkLemmas.{room_in_chunk, flat_push, packed_push}
use Rattle.hx_pool.proofs.chunks.Chunks.push.Goals as goal

pub push-requires : goal.push-requires
push-requires g c =
    let room = rw (← c.self.view_is) at c.requires in
    (room_in_chunk c.self.inside.chunks.items c.self.inside.len c.index_mut.result.now c.self.invariant.packed (omega arith) c.index_mut.ensures.value).1

pub invariant_of-self : goal.invariant_of-self
invariant_of-self g c =
    let room = rw (← c.self.view_is) at c.requires in
    let read = (room_in_chunk c.self.inside.chunks.items c.self.inside.len c.index_mut.result.now c.self.invariant.packed (omega arith) c.index_mut.ensures.value).0 in
    rw c.push.ensures (record {
      packed = packed_push c.self.inside.chunks.items c.self.inside.len (c.self.inside.len / 1024) c.index_mut.result.now c.args.slot (omega arith) (omega arith) c.self.invariant.packed read;
      few = rw length-set c.self.invariant.few;
    })

pub returns-clause-slots : goal.returns-clause-slots
returns-clause-slots g c =
    let room = rw (← c.self.view_is) at c.requires in
    let read = (room_in_chunk c.self.inside.chunks.items c.self.inside.len c.index_mut.result.now c.self.invariant.packed (omega arith) c.index_mut.ensures.value).0 in
    rw (← c.self.view_is, c.push.ensures) (flat_push c.self.inside.chunks.items c.self.inside.len (c.self.inside.len / 1024) c.index_mut.result.now c.args.slot (omega arith) (omega arith) c.self.invariant.packed read)
