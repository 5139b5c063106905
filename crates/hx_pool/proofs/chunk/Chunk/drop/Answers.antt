use Rattle.std.proofs.Common.{◌≡◌, ◌-◌, sym, ◌∙◌, subst, arith, length-set}
use Rattle.hx_pool.specs.Memory.{IsFilled}
use Rattle.hx_pool.proofs.PlaceLemmas.{filled_holds, filled_pop, none_filled}
use Rattle.hx_pool.proofs.chunk.Chunk.drop.Goals as goal

pub read-slot-requires : goal.read-slot-requires
read-slot-requires g c =
    let kept = c.loop-used.invariant in let some = c.loop-used-test.true in
    (sym kept.start, filled_holds c.loop-used.places.values c.loop-used.used (c.loop-used.used - 1) kept.filled (omega arith))

pub loop-used-preserved : goal.loop-used-preserved
loop-used-preserved g c =
    let kept = c.loop-used.invariant in let some = c.loop-used-test.true in let values = c.loop-used.places.values in let used = c.loop-used.used in
    let read = c.read-slot.ensures.places in
    record {
      start = read.0 ∙ kept.start;
      whole = rw (read.1, length-set) kept.whole;
      filled = rw read.1 (filled_pop values used (used - 1) (omega arith) kept.filled);
    }

pub loop-used-preserved-in-loop-used : goal.loop-used-preserved-in-loop-used
loop-used-preserved-in-loop-used g c =
    let kept = c.loop-used.invariant in let some = c.loop-used-test.true in let values = c.loop-used.places.values in let used = c.loop-used.used in
    let read = c.read-slot.ensures.places in
    record {
      start = read.0 ∙ kept.start;
      whole = rw (read.1, length-set) kept.whole;
      filled = rw read.1 (filled_pop values used (used - 1) (omega arith) kept.filled);
    }

pub deallocate-requires : goal.deallocate-requires
deallocate-requires g c =
    let kept = c.loop-used.invariant in let over = c.loop-used-test.false in let values = c.loop-used.places.values in
    let none : c.loop-used.used ≡ 0 = omega arith in
    (kept.start, none_filled values 1024 kept.whole (subst (IsFilled values) none kept.filled), c.self.invariant.claims, c.self.invariant.counted, c.self.invariant.giver)
