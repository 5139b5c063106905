use Rattle.std.proofs.Common.{◌≡◌, ◌++◌, ◌-◌, length}
use Rattle.std.specs.Prelude.{drop}
use Rattle.hx_trace.specs.Why.{head_numbers}
use Rattle.hx_trace.proofs.HeadWalkLemmas.{numbers_left}
use Rattle.hx_trace.proofs.numbers.head_numbers.Given as goal

abbrev pub invariant-heads : goal.invariant-heads
invariant-heads l = record {
  so_far : l.numbers.items ++ numbers_left l.refs.content (drop l.head l.refs.content.heads)
      ≡ head_numbers l.refs.content;
}

abbrev pub decreases-heads : goal.decreases-heads
decreases-heads l = length l.refs.content.heads - l.head
