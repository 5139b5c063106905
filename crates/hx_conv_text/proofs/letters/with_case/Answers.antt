use Rattle.std.proofs.Common.{map, sym, ap, ◌∙◌}
use Rattle.hx_conv_text.specs.Letters.{in_case}
use Rattle.hx_conv_text.proofs.LetterLemmas.{changed, unchanged}
use Rattle.hx_conv_text.proofs.letters.with_case.Goals as goal

pub returns-then-has_case-clause-value : goal.returns-then-has_case-clause-value
returns-then-has_case-clause-value c =
    sym (unchanged (in_case c.args.case) _ _ c.as_slice.ensures c.if-has_case.ensures)

pub returns-in_err-copied_in_case-in_default-clause-free : goal.returns-in_err-copied_in_case-in_default-clause-free
returns-in_err-copied_in_case-in_default-clause-free c same =
    absurd (changed (in_case c.args.case) _ _ c.as_slice.ensures c.if-has_case.ensures same)

pub returns-in_ok-copied_in_case-in_default-clause-kept : goal.returns-in_ok-copied_in_case-in_default-clause-kept
returns-in_ok-copied_in_case-in_default-clause-kept c same =
    absurd (changed (in_case c.args.case) _ _ c.as_slice.ensures c.if-has_case.ensures
    (sym (c.in_ok-copied_in_case-in_default.ensures
    ∙ ap (map (in_case c.args.case)) c.as_slice-in_default.ensures) ∙ same))
