use Rattle.std.proofs.Common.{◌≡◌, [], Option, option_and_then, unwrap_or, ap, ◌∙◌}
use Rattle.hx_text.specs.declared.kinds.Kind.TheVariants as kind
use Rattle.hx_sample.specs.Cast.{is_printed}
use Rattle.hx_sample.specs.declared.sample.Value.{Value}
use Rattle.hx_conv_text.specs.Converters.{cast_content}
use Rattle.hx_conv_text.proofs.PrintedLemmas.{empty_not_printed}
use Rattle.hx_conv_text.proofs.applying.var_text.Goals as goal

pub returns-in-Some-clause-free : goal.returns-in-Some-clause-free
returns-in-Some-clause-free c empty =
    let value = c.in-Some.value.now in
    let none : unwrap_or (cast_content kind.Str value) [] ≡ [] =
    ap (λ (found : Option Value). unwrap_or (option_and_then (cast_content kind.Str) found) []) c.in-Some.ensures ∙ empty in
    c.content.ensures.not_printed
    (ap (λ (lent : Value). is_printed lent kind.Str) c.lend.ensures ∙ empty_not_printed value none)
