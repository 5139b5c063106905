use Rattle.std.proofs.Common.{◌≡◌, ◌+◌, ◌<◌, ◌≤◌, length, sym, ap, ◌∙◌, arith}
use Rattle.std.specs.List.{position_or_len, prefix_len}
use Rattle.std.proofs.lemmas.List.{take_rest}
use Rattle.hx_conv_text.specs.Pieces.{is_in}
use Rattle.hx_conv_text.proofs.PieceLemmas.{first_word, no_word}
use Rattle.hx_conv_text.proofs.pieces.next_word.Goals as goal

pub returns-then-begin-end-clause-none : goal.returns-then-begin-end-clause-none
returns-then-begin-end-clause-none c =
    let text = c.args.text.now in
    let delims = c.args.delims.now in
    let within : c.args.at ≤ length text = omega (arith, c.if-at-text.false) in
    let none : c.leading_outside.result ≡ 0 = omega (arith, c.if-begin-end.true) in
    no_word delims text c.args.at c.leading_in.result within
    (c.leading_in.ensures.value ∙ ap (prefix_len (is_in delims)) (take_rest text c.args.at))
    (sym none ∙ c.leading_outside.ensures.value
    ∙ ap (position_or_len (is_in delims)) (take_rest text (c.args.at + c.leading_in.result)))

pub returns-else-begin-end-clause-some : goal.returns-else-begin-end-clause-some
returns-else-begin-end-clause-some c =
    let text = c.args.text.now in
    let delims = c.args.delims.now in
    let within : c.args.at ≤ length text = omega (arith, c.if-at-text.false) in
    let some : 0 < c.leading_outside.result = omega (arith, c.if-begin-end.false) in
    first_word delims text c.args.at c.leading_in.result c.leading_outside.result within
    (c.leading_in.ensures.value ∙ ap (prefix_len (is_in delims)) (take_rest text c.args.at))
    (c.leading_outside.ensures.value
    ∙ ap (position_or_len (is_in delims)) (take_rest text (c.args.at + c.leading_in.result)))
    some
