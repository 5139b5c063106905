use Rattle.hx_conv_text.proofs.PieceLemmas.{first_field}
use Rattle.hx_conv_text.proofs.pieces.next_field.Goals as goal
use Rattle.std.proofs.Common.{length, ap, ◌∙◌, arith, ◌≤◌}
use Rattle.std.specs.List.{position_or_len}
use Rattle.std.proofs.lemmas.List.{take_rest}
use Rattle.hx_conv_text.specs.Pieces.{is_in}

pub returns-clause-some : goal.returns-clause-some
returns-clause-some c =
    let text = c.args.text.now in
    let within : c.args.at ≤ length text = omega (arith, c.if-at-text.false) in
    first_field c.args.delims.now text c.args.at c.leading_outside.result within
    (c.leading_outside.ensures.value ∙ ap (position_or_len (is_in c.args.delims.now)) (take_rest text c.args.at))
