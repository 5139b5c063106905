use Rattle.std.proofs.Common.{◌+◌, ◌-◌, length, sym, ◌∙◌, arith}
use Rattle.hx_lists.proofs.MarkLemmas.{pieces_at-unmarked, pieces_at-other}
use Rattle.hx_lists.proofs.header.next_mark.Goals as goal

pub loop-at-preserved : goal.loop-at-preserved
loop-at-preserved c =
    let at = c.loop-at.at in
    let known = c.loop-at.invariant in
    let within = c.loop-at-test.true in (
      omega (arith, known.0),
      omega (arith, within, known.1),
      pieces_at-unmarked c.args.line.now at (at + 8) at (at + 8)
          (sym c.has_mark.ensures ∙ c.if-not-has_mark.true) (omega (arith, within, known.1)) (omega arith) (omega arith) (omega arith)
          ∙ known.2,
    )

pub returns-then-line-at-ge32-clause-same : goal.returns-then-line-at-ge32-clause-same
returns-then-line-at-ge32-clause-same c =
    let at = c.loop-at.at in
    c.far_mark.ensures.same
    ∙ pieces_at-unmarked c.args.line.now at (at + 8) at (at + 8)
    (sym c.has_mark.ensures ∙ c.if-not-has_mark.true) (omega (arith, c.loop-at-test.true, c.loop-at.invariant.1))
    (omega arith) (omega arith) (omega arith)
    ∙ c.loop-at.invariant.2

pub returns-then-not-has_mark-2-clause-same : goal.returns-then-not-has_mark-2-clause-same
returns-then-not-has_mark-2-clause-same c =
    let size = length c.args.line.now in
    let known = c.loop-at.invariant in
    pieces_at-unmarked c.args.line.now (size - 8) size c.loop-at.at size
    (sym c.has_mark-then-line-start-ge8.ensures ∙ c.if-not-has_mark-2.true) (omega arith)
    (omega (arith, c.if-line-at-lt8.true, c.if-line-start-ge8.true)) known.1 (omega arith)
    ∙ known.2

pub loop-at-2-preserved : goal.loop-at-2-preserved
loop-at-2-preserved c =
    let known = c.loop-at-2.invariant in
    let within = c.loop-at-2-test.true in (
      omega (arith, known.0),
      omega (arith, within),
      pieces_at-other c.args.line.now c.loop-at-2.at within
          (sym c.is_mark.ensures ∙ c.if-not-is_mark.true)
          ∙ known.2,
    )
