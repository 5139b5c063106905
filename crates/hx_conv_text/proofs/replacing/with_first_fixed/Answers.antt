use Rattle.std.proofs.Common.{◌≡◌, ◌++◌, take, drop, ap, ◌∙◌}
use Rattle.regex.specs.Bytes.{match_span, matcher_pattern}
use Rattle.regex.specs.Patterns.{find}
use Rattle.hx_conv_text.proofs.FixedLemmas.{none_replaced_by, one_replaced}
use Rattle.hx_conv_text.proofs.replacing.with_first_fixed.Goals as goal

pub returns-in_ok-made-in-Some-clause-value : goal.returns-in_ok-made-in-Some-clause-value
returns-in_ok-made-in-Some-clause-value c =
    let re = matcher_pattern c.args.matcher.now in
    let text = c.args.text.now in
    let input = c.args.input.now in
    let found = c.in-Some.found in
    let made : c.in_ok-made-in-Some.made ≡ take c.start.result input ++ text ++ drop c.end.result input =
    c.in_ok-made-in-Some.ensures in
    made
    ∙ ap (λ n. take n input ++ text ++ drop c.end.result input) c.start.ensures
    ∙ ap (λ n. take found.start input ++ text ++ drop n input) c.end.ensures
    ∙ one_replaced re input text (match_span found) (find re input 0) c.in-Some.ensures.found

pub returns-in-None-clause-value : goal.returns-in-None-clause-value
returns-in-None-clause-value c =
    let re = matcher_pattern c.args.matcher.now in
    none_replaced_by re c.args.input.now c.args.text.now (find re c.args.input.now 0) c.in-None.ensures.found
