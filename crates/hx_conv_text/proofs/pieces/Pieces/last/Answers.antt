use Rattle.std.proofs.Common.{ap}
use Rattle.hx_conv_text.specs.Pieces.{text_across}
use Rattle.hx_conv_text.proofs.PieceLemmas.{last_come, next_come}
use Rattle.hx_conv_text.proofs.pieces.Pieces.last.Goals as goal

pub loop-span-preserved : goal.loop-span-preserved
loop-span-preserved c =
    let within = c.in-Some.ensures.within in
    (within.1, within.2, next_come _ _ _ _ _ c.loop-span.invariant.2 c.in-Some.ensures.some)

pub returns-clause-value : goal.returns-clause-value
returns-clause-value c =
    ap (text_across c.args.self.now.text.now)
    (last_come _ _ c.loop-span.last c.loop-span.invariant.2 c.in_default.ensures.none)
