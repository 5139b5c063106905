use Rattle.std.proofs.Common.{ap, ◌∙◌}
use Rattle.std.specs.List.{position_or_len}
use Rattle.hx_conv_text.specs.Pieces.{is_in}
use Rattle.hx_conv_text.proofs.SearchLemmas.{one_long, two_long}
use Rattle.hx_conv_text.proofs.pieces.leading_outside.Goals as goal

pub returns-in-len1-clause-value : goal.returns-in-len1-clause-value
returns-in-len1-clause-value c =
    c.leading_other.ensures.value
    ∙ ap (λ bytes. position_or_len (is_in bytes) c.args.text.now)
    (one_long c.args.bytes.now c.in-len1.len_at_least c.in-len1.len_below)

pub returns-in-len2-clause-value : goal.returns-in-len2-clause-value
returns-in-len2-clause-value c =
    c.leading_neither.ensures.value
    ∙ ap (λ bytes. position_or_len (is_in bytes) c.args.text.now)
    (two_long c.args.bytes.now c.in-len2.len_at_least c.in-len2.len_below)
