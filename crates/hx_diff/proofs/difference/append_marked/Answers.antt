use Rattle.std.proofs.Common.{ℕ, List, ◌++◌, ap, sym, ◌∙◌}
use Rattle.hx_diff.specs.Difference.{marked}
use Rattle.hx_diff.proofs.DifferenceLemmas.{end_marked, more_marked}
use Rattle.hx_diff.proofs.difference.append_marked.Goals as goal

pub lines-preserved : goal.lines-preserved
lines-preserved c =
    ap (λ (text : List ℕ). text ++ marked c.args.mark.now c.in-Some.rest.now) c.in_ok-append_line-in-Some.ensures
    ∙ more_marked c.lines.text.items c.args.mark.now c.lines.answer.now c.in-Some.line.now c.in-Some.rest.now (sym c.in-Some.ensures.value)
    ∙ c.lines.invariant

pub returns-in-None : goal.returns-in-None
returns-in-None c =
    c.in_ok-append_end-in-None.ensures
    ∙ end_marked c.lines.text.items c.args.mark.now c.lines.answer.now (sym c.in-None.ensures.value)
    ∙ c.lines.invariant
