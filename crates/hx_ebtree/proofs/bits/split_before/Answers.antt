use Rattle.std.proofs.Common.{◌*◌, arith}
use Rattle.hx_ebtree.proofs.SplitLemmas.{same_before, splits_here, splits_none, splits_at_end, splits_later, split_early, split_late, none_late, split_at_late}
use Rattle.hx_ebtree.proofs.bits.split_before.Goals as goal

pub returns-then-at-end : goal.returns-then-at-end
returns-then-at-end c =
    let least = c.min-short.ensures in let least_end = c.min-end.ensures in let here = c.if-at-end.true in
    let at = c.first_difference-at.result in
    split_early c.args.limit _ _
    (splits_here c.args.a.now c.args.b.now c.args.a_bits c.args.b_bits at (omega arith) (omega arith)
    (same_before c.args.a.now c.args.b.now c.args.a_bits c.args.b_bits c.args.from at c.requires.from c.first_difference-at.ensures.same)
    (omega arith) (omega arith) (c.first_difference-at.ensures.differs here))
    (omega arith)

pub returns-then-end-short : goal.returns-then-end-short
returns-then-end-short c =
    let least = c.min-short.ensures in let least_end = c.min-end.ensures in let past = c.if-at-end.false in let long = c.if-end-short.true in
    let end = c.min-end.result in
    split_late c.args.limit _ (λ at is.
    let after = splits_later c.args.a.now c.args.b.now c.args.a_bits c.args.b_bits end (omega arith) (omega arith)
    (same_before c.args.a.now c.args.b.now c.args.a_bits c.args.b_bits c.args.from end c.requires.from (λ i ge lt. c.first_difference-at.ensures.same i ge (omega arith)))
    (omega arith) (omega arith) at is in
    omega arith)

pub returns-then-a_bits-b_bits : goal.returns-then-a_bits-b_bits
returns-then-a_bits-b_bits c =
    let least = c.min-short.ensures in let least_end = c.min-end.ensures in let past = c.if-at-end.false in let long = c.if-end-short.false in let same = c.if-a_bits-b_bits.true in
    let end = c.min-end.result in
    none_late c.args.limit _
    (splits_none c.args.a.now c.args.b.now c.args.a_bits c.args.b_bits end (omega arith) (omega arith)
    (same_before c.args.a.now c.args.b.now c.args.a_bits c.args.b_bits c.args.from end c.requires.from (λ i ge lt. c.first_difference-at.ensures.same i ge (omega arith)))
    (omega arith) (omega arith))

pub returns-then-last-limit : goal.returns-then-last-limit
returns-then-last-limit c =
    let least = c.min-short.ensures in let least_end = c.min-end.ensures in let past = c.if-at-end.false in let long = c.if-end-short.false in let other = c.if-a_bits-b_bits.false in
    let early = c.if-last-limit.true in
    let short = c.min-short.result in
    split_early c.args.limit _ _
    (splits_at_end c.args.a.now c.args.b.now c.args.a_bits c.args.b_bits short (omega arith) (omega arith)
    (same_before c.args.a.now c.args.b.now c.args.a_bits c.args.b_bits c.args.from short c.requires.from (λ i ge lt. c.first_difference-at.ensures.same i ge (omega arith)))
    (λ lm ln. omega arith) other)
    early

pub returns-else-last-limit : goal.returns-else-last-limit
returns-else-last-limit c =
    let least = c.min-short.ensures in let least_end = c.min-end.ensures in let past = c.if-at-end.false in let long = c.if-end-short.false in let other = c.if-a_bits-b_bits.false in
    let late = c.if-last-limit.false in
    let short = c.min-short.result in
    split_at_late c.args.limit (short * 2) _
    (splits_at_end c.args.a.now c.args.b.now c.args.a_bits c.args.b_bits short (omega arith) (omega arith)
    (same_before c.args.a.now c.args.b.now c.args.a_bits c.args.b_bits c.args.from short c.requires.from (λ i ge lt. c.first_difference-at.ensures.same i ge (omega arith)))
    (λ lm ln. omega arith) other)
    late
