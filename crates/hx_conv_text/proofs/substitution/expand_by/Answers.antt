use Rattle.std.proofs.Common.{◌∙◌}
use Rattle.regex.specs.Bytes.{matcher_pattern}
use Rattle.hx_conv_text.proofs.SubstitutionLemmas.{expanded_is}
use Rattle.hx_conv_text.proofs.substitution.expand_by.Goals as goal

pub returns-in_ok-made-in-Fresh : goal.returns-in_ok-made-in-Fresh
returns-in_ok-made-in-Fresh c =
    let is = rw c.in-Fresh.is at c.in_ok-matcher.ensures in
    let value = rw c.deref_mut.ensures.value at c.in_ok-made-in-Fresh.ensures.value in
    value
    ∙ expanded_is c.args.re.now c.args.sub.now c.args.input.now (matcher_pattern c.in-Fresh.matcher.value)
    (λ k. (c.type_inv.input k).fits) is

pub returns-in_ok-made-in-Kept : goal.returns-in_ok-made-in-Kept
returns-in_ok-made-in-Kept c =
    let is = rw c.in-Kept.is at c.in_ok-matcher.ensures in
    let value = rw c.deref_mut-in-Kept.ensures.value at c.in_ok-made-in-Kept.ensures.value in
    value
    ∙ expanded_is c.args.re.now c.args.sub.now c.args.input.now (matcher_pattern c.in-Kept.kept.matcher.value)
    (λ k. (c.type_inv.input k).fits) is.1
