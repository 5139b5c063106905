use Rattle.std.proofs.Common.{◌∙◌}
use Rattle.regex.specs.Bytes.{regex_pattern}
use Rattle.hx_regex.proofs.SearchLemmas.{made_is_pattern}
use Rattle.hx_conv_text.proofs.SubstitutionLemmas.{expanded_is}
use Rattle.hx_conv_text.proofs.substitution.expand.Goals as goal

pub returns-clause-text : goal.returns-clause-text
returns-clause-text c ci text is =
    let value = rw c.in_ok-matcher.ensures.pattern at c.in_ok-made.ensures.value in
    value
    ∙ expanded_is (record { text = text; ci = ci }) c.args.sub.now c.args.input.now
    (regex_pattern c.args.re.now) (λ k. (c.type_inv.input k).fits)
    (made_is_pattern ci text c.args.re.now is)
