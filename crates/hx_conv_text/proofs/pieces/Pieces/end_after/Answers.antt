use Rattle.std.proofs.Common.{◌≡◌, ◌<◌, ◌-◌, ◌+◌, take, sym, ap, ◌∙◌, arith}
use Rattle.hx_conv_text.specs.Scanning.{last_end, pieces_left}
use Rattle.hx_conv_text.proofs.PieceLemmas.{take_next}
use Rattle.hx_conv_text.proofs.pieces.Pieces.end_after.Goals as goal

pub loop-i-preserved : goal.loop-i-preserved
loop-i-preserved c =
    let pieces = c.args.self.now in
    let span = c.in-Some.span in
    let left = c.args.more - c.loop-i._i in
    let some : 0 < left = omega (arith, c.loop-i-test.true) in
    let less : c.args.more - (c.loop-i._i + 1) ≡ left - 1 = omega arith in
    let next = take_next (pieces_left pieces (c.loop-i.last + 1)) (pieces_left pieces (span.1 + 1))
    span left some c.in-Some.ensures.some in
    record {
      left = ap (λ n. last_end span.1 (take n (pieces_left pieces (span.1 + 1)))) less
          ∙ sym (ap (last_end c.loop-i.last) next) ∙ c.loop-i.invariant.left;
      within = c.in-Some.ensures.within.2;
      later = omega (arith, c.loop-i.invariant.later, c.in-Some.ensures.within.0);
    }
