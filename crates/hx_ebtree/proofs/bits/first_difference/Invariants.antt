use Rattle.std.proofs.Common.{◌≡◌, ◌≤◌, ◌<◌, ◌-◌, ℕ}
use Rattle.hx_ebtree.specs.Bits.{bit_of}
use Rattle.hx_ebtree.proofs.bits.first_difference.Given as goal

abbrev pub invariant-loop-index : goal.invariant-loop-index
invariant-loop-index l = record {
  from : l.from ≤ l.index;
  end : l.index ≤ l.end;
  same : (i : ℕ) → l.from ≤ i → i < l.index → bit_of l.a i ≡ bit_of l.b i;
}

abbrev pub decreases-loop-index : goal.decreases-loop-index
decreases-loop-index l = l.end - l.index
