use Rattle.std.proofs.Common.{Some, ap, ◌∙◌}
use Rattle.hx_conv_text.proofs.UrlLemmas.{decoded_value, other_text, plain_text}
use Rattle.hx_conv_text.proofs.url.url_dec.Goals as goal

pub returns-then-is_plain-clause-value : goal.returns-then-is_plain-clause-value
returns-then-is_plain-clause-value c =
    plain_text c.args.form _ _ _ _ c.as_slice-bytes.ensures c.if-not-is_encoded.ensures c.is_form.ensures
    c.query_start-query.ensures.value c.if-is_plain.ensures

pub returns-in_err-made-clause-free : goal.returns-in_err-made-clause-free
returns-in_err-made-clause-free c same =
    absurd (other_text c.args.form _ _ _ _ c.as_slice-bytes.ensures c.if-not-is_encoded.ensures c.is_form.ensures
    c.query_start-query.ensures.value c.if-is_plain.ensures same)

pub returns-clause-kept : goal.returns-clause-kept
returns-clause-kept c same =
    absurd (other_text c.args.form _ _ _ _ c.as_slice-bytes.ensures c.if-not-is_encoded.ensures c.is_form.ensures
    c.query_start-query.ensures.value c.if-is_plain.ensures
    (decoded_value c.args.form _ _ _ _ _ c.as_slice-bytes.ensures c.if-not-is_encoded.ensures c.is_form.ensures
    c.query_start-query.ensures.value c.in_ok-made.ensures ∙ ap Some same))
