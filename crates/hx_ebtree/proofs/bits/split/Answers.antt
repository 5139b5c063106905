use Rattle.std.proofs.Common.{arith, sym}
use Rattle.hx_ebtree.proofs.SplitLemmas.{same_before, splits_here, splits_none, splits_at_end}
use Rattle.hx_ebtree.proofs.bits.split.Goals as goal

pub returns-then-at-end : goal.returns-then-at-end
returns-then-at-end c =
    let least = c.min-end.ensures in let here = c.if-at-end.true in
    let at = c.first_difference-at.result in
    sym (splits_here c.args.a.now c.args.b.now c.args.a_bits c.args.b_bits at (omega arith) (omega arith)
    (same_before c.args.a.now c.args.b.now c.args.a_bits c.args.b_bits c.args.from at c.requires.from c.first_difference-at.ensures.same)
    (omega arith) (omega arith) (c.first_difference-at.ensures.differs here))

pub returns-then-a_bits-b_bits : goal.returns-then-a_bits-b_bits
returns-then-a_bits-b_bits c =
    let least = c.min-end.ensures in let past = c.if-at-end.false in let same = c.if-a_bits-b_bits.true in
    let end = c.min-end.result in
    sym (splits_none c.args.a.now c.args.b.now c.args.a_bits c.args.b_bits end (omega arith) (omega arith)
    (same_before c.args.a.now c.args.b.now c.args.a_bits c.args.b_bits c.args.from end c.requires.from (λ i ge lt. c.first_difference-at.ensures.same i ge (omega arith)))
    (omega arith) (omega arith))

pub returns : goal.returns
returns c =
    let least = c.min-end.ensures in let past = c.if-at-end.false in let other = c.if-a_bits-b_bits.false in
    let end = c.min-end.result in
    sym (splits_at_end c.args.a.now c.args.b.now c.args.a_bits c.args.b_bits end (omega arith) (omega arith)
    (same_before c.args.a.now c.args.b.now c.args.a_bits c.args.b_bits c.args.from end c.requires.from (λ i ge lt. c.first_difference-at.ensures.same i ge (omega arith)))
    (λ lm ln. omega arith) other)
