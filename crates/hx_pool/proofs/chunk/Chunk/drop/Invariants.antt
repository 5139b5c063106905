use Rattle.std.proofs.Common.{◌≡◌, length}
use Rattle.hx_pool.specs.Memory.{IsFilled}
use Rattle.hx_pool.proofs.chunk.Chunk.drop.Given as goal

abbrev pub invariant-loop-used : goal.invariant-loop-used
invariant-loop-used g l = record {
  start : l.places.start ≡ l.start.address;
  whole : length l.places.values ≡ 1024;
  filled : IsFilled l.places.values l.used;
}

abbrev pub decreases-loop-used : goal.decreases-loop-used
decreases-loop-used g l = l.used
