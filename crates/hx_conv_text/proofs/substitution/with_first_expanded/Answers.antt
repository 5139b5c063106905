use Rattle.std.proofs.Common.{◌++◌, ap, ◌∙◌}
use Rattle.std.proofs.lemmas.List.{take_rest}
use Rattle.regex.specs.Bytes.{matcher_pattern}
use Rattle.regex.specs.Patterns.{find}
use Rattle.hx_conv_text.specs.Writing.{written_at}
use Rattle.hx_conv_text.proofs.ExpandedLemmas.{first_written, none_first}
use Rattle.hx_conv_text.proofs.substitution.with_first_expanded.Goals as goal

pub returns-in_ok-extend_from_slice-in-Some-clause-value : goal.returns-in_ok-extend_from_slice-in-Some-clause-value
returns-in_ok-extend_from_slice-in-Some-clause-value c =
    let sub = c.args.sub.now in
    let input = c.args.input.now in
    let found = find (matcher_pattern c.args.matcher.now) input 0 in
    let made = c.in_ok-end.ensures.made
    ∙ ap (λ l. l ++ written_at sub input 0 found) c.new-made.ensures.items in
    first_written sub input c.in-Some.end found _ _ (rw c.in-Some.is at c.in_ok-end.ensures.found) made
    (c.from_vec.ensures ∙ c.in_ok-extend_from_slice-in-Some.ensures.items
    ∙ ap (λ l. c.write_from.new.made.items ++ l) (take_rest input c.in-Some.end))

pub returns-in-None-clause-value : goal.returns-in-None-clause-value
returns-in-None-clause-value c =
    none_first c.args.sub.now c.args.input.now _ (rw c.in-None.is at c.in_ok-end.ensures.found)
