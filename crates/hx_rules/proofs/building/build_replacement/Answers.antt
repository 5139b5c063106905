use Rattle.std.proofs.Common.{List, [], ◌∷◌, ◌++◌, ℕ, false, refl}
use Rattle.std.specs.Prelude.{Contains}
use Rattle.std.proofs.lemmas.List.Elements.{Contains-append_left, Contains-append_right}
use Rattle.std.proofs.lemmas.Result.{err_from_is_err_and}
use Rattle.hx_outside.specs.Makers.{ExpressionText}
use Rattle.hx_expr.proofs.CountLemmas.{counts_within}
use Rattle.hx_rules.specs.Building.{exprs_texts, format_exprs}
use Rattle.hx_rules.proofs.building.build_replacement.Goals as goal

-- the text that the action itself reads
abbrev own : List ℕ → List ExpressionText
own pattern = record { text = pattern; ci = false } ∷ []

pub returns-in_err-pattern-clause-large : goal.returns-in_err-pattern-clause-large
returns-in_err-pattern-clause-large g c =
    let p = err_from_is_err_and c.from_residual.result c.from_residual.ensures.1 in
    rw (p.1, p.2)
    (counts_within c.in_err-pattern.field-0.0 (Contains (own c.args.pattern.now)) (Contains (own c.args.pattern.now ++ exprs_texts (format_exprs c.args.format.now))) _ _ _
    (Contains-append_left (own c.args.pattern.now) (exprs_texts (format_exprs c.args.format.now)))
    refl refl (rw c.as_slice.ensures at c.in_err-pattern.ensures.large))

pub returns-in_err-format-clause-large : goal.returns-in_err-format-clause-large
returns-in_err-format-clause-large g c =
    let p = err_from_is_err_and c.from_residual-in_err-format.result c.from_residual-in_err-format.ensures.1 in
    rw (p.1, p.2)
    (counts_within c.in_err-format.field-0.0 (Contains (exprs_texts (format_exprs c.args.format.now))) (Contains (own c.args.pattern.now ++ exprs_texts (format_exprs c.args.format.now))) _ _ _
    (Contains-append_right (own c.args.pattern.now) (exprs_texts (format_exprs c.args.format.now)))
    c.in_ok-pattern.ensures.large.0 c.in_ok-pattern.ensures.large.1 c.in_err-format.ensures.large)
