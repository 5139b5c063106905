use Rattle.std.proofs.Common.{arith, ◌%◌, ◌/◌}
use Rattle.hx_pool.proofs.ChunkLemmas.{flat_length, packed_most, packed_read, chunk_of}
use Rattle.hx_pool.proofs.chunks.Chunks.get.Goals as goal

pub index-requires : goal.index-requires
index-requires g c =
    let long = flat_length c.self.inside.chunks.items c.self.inside.len c.self.invariant.packed in
    let most = packed_most c.self.inside.chunks.items c.self.inside.len c.self.invariant.packed in
    let within = rw (← c.self.view_is) at c.requires in
    let counted = c.self.inside.chunks.ok in
    omega arith

pub get-requires : goal.get-requires
get-requires g c =
    let long = flat_length c.self.inside.chunks.items c.self.inside.len c.self.invariant.packed in
    let within = rw (← c.self.view_is) at c.requires in
    (chunk_of c.self.inside.chunks.items c.self.inside.len c.args.index c.index.result.now c.self.invariant.packed (omega arith) c.index.ensures).1

pub returns : goal.returns
returns g c =
    let long = flat_length c.self.inside.chunks.items c.self.inside.len c.self.invariant.packed in
    let within = rw (← c.self.view_is) at c.requires in
    let read = (chunk_of c.self.inside.chunks.items c.self.inside.len c.args.index c.index.result.now c.self.invariant.packed (omega arith) c.index.ensures).0 in
    rw (← c.self.view_is) (packed_read c.self.inside.chunks.items c.self.inside.len (c.args.index / 1024) (c.args.index % 1024) c.args.index c.index.result.now _ (omega arith) c.self.invariant.packed read c.get.ensures)
