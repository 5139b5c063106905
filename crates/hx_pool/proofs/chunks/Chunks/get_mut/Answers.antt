use Rattle.std.proofs.Common.{arith, ◌%◌, ◌/◌, length-set, refl}
use Rattle.hx_pool.proofs.ChunkLemmas.{flat_length, packed_most, packed_read, packed_write, packed_same, chunk_of}
use Rattle.hx_pool.proofs.chunks.Chunks.get_mut.Goals as goal

pub index_mut-requires : goal.index_mut-requires
index_mut-requires g c =
    let long = flat_length c.self.inside.chunks.items c.self.inside.len c.self.invariant.packed in
    let most = packed_most c.self.inside.chunks.items c.self.inside.len c.self.invariant.packed in
    let within = rw (← c.self.view_is) at c.requires in
    let counted = c.self.inside.chunks.ok in
    omega arith

pub get_mut-requires : goal.get_mut-requires
get_mut-requires g c =
    let long = flat_length c.self.inside.chunks.items c.self.inside.len c.self.invariant.packed in
    let within = rw (← c.self.view_is) at c.requires in
    (chunk_of c.self.inside.chunks.items c.self.inside.len c.args.index c.index_mut.result.now c.self.invariant.packed (omega arith) c.index_mut.ensures.value).1

pub invariant_of-self-lent : goal.invariant_of-self-lent
invariant_of-self-lent g c w =
    let long = flat_length c.self.inside.chunks.items c.self.inside.len c.self.invariant.packed in
    let within = rw (← c.self.view_is) at c.requires in
    let read = (chunk_of c.self.inside.chunks.items c.self.inside.len c.args.index c.index_mut.result.now c.self.invariant.packed (omega arith) c.index_mut.ensures.value).0 in
    record {
      packed = packed_same c.self.inside.chunks.items c.self.inside.len (c.args.index / 1024) c.index_mut.result.now _ c.self.invariant.packed read (length-set c.index_mut.result.now (c.args.index % 1024) w);
      few = rw length-set c.self.invariant.few;
    }

pub returns : goal.returns
returns g c =
    let long = flat_length c.self.inside.chunks.items c.self.inside.len c.self.invariant.packed in
    let within = rw (← c.self.view_is) at c.requires in
    let found = chunk_of c.self.inside.chunks.items c.self.inside.len c.args.index c.index_mut.result.now c.self.invariant.packed (omega arith) c.index_mut.ensures.value in (
      (refl, λ w. rw (← c.self.view_is, packed_write c.self.inside.chunks.items c.self.inside.len (c.args.index / 1024) (c.args.index % 1024) c.args.index c.index_mut.result.now w (omega arith) found.1 c.self.invariant.packed found.0, length-set)),
      record { writes_back = tt; value = rw (← c.self.view_is) (packed_read c.self.inside.chunks.items c.self.inside.len (c.args.index / 1024) (c.args.index % 1024) c.args.index c.index_mut.result.now _ (omega arith) c.self.invariant.packed found.0 c.get_mut.ensures.value) },
    )
