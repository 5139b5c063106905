use Rattle.std.proofs.Common.{sym, ◌∙◌, arith}
use Rattle.hx_conv_text.specs.Scanning.{pieces_left}
use Rattle.hx_conv_text.proofs.PieceLemmas.{drop_later, drop_next}
use Rattle.hx_conv_text.proofs.pieces.Pieces.after.Goals as goal

pub returns-in_err-span-clause-none : goal.returns-in_err-span-clause-none
returns-in_err-span-clause-none c =
    rw c.from_residual.ensures (drop_later (pieces_left c.args.self.now 0) c.loop-i._i c.args.skipped
    (omega (arith, c.loop-i-test.true)) (sym c.loop-i.invariant ∙ c.in_err-span.ensures.none))

pub loop-i-preserved : goal.loop-i-preserved
loop-i-preserved c =
    sym (drop_next (pieces_left c.args.self.now 0) _ _ c.loop-i._i
    (sym c.loop-i.invariant ∙ c.in_ok-span.ensures.some))
