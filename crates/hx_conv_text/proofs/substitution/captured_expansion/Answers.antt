use Rattle.std.proofs.Common.{Some, option_map, sym, ap, ◌∙◌}
use Rattle.hx_conv_text.specs.Substitution.{expansion_at}
use Rattle.hx_conv_text.proofs.SubstitutionLemmas.{expansion-captured}
use Rattle.hx_conv_text.proofs.substitution.captured_expansion.Goals as goal

pub returns-in_ok-expansion-in-Some-clause-value : goal.returns-in_ok-expansion-in-Some-clause-value
returns-in_ok-expansion-in-Some-clause-value c =
    let sub = c.args.sub.now in
    let input = c.args.input.now in
    let (m, is, shown) = c.in-Some.ensures.found in
    ap Some (c.from_vec.ensures ∙ c.in_ok-expansion-in-Some.ensures ∙ expansion-captured sub input m c.in-Some.captures shown)
    ∙ ap (option_map (expansion_at sub input)) (sym is)
