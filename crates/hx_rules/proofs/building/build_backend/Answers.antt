use Rattle.std.proofs.Common.{refl}
use Rattle.std.specs.Prelude.{Contains}
use Rattle.std.proofs.lemmas.List.Elements.{Contains-append_left, Contains-append_right}
use Rattle.std.proofs.lemmas.Result.{err_from_is_err_and}
use Rattle.hx_expr.proofs.CountLemmas.{counts_within}
use Rattle.hx_rules.specs.Building.{backend_texts, exprs_texts, format_exprs, when_texts}
use Rattle.hx_rules.proofs.building.build_backend.Goals as goal

pub returns-in_err-format-clause-large : goal.returns-in_err-format-clause-large
returns-in_err-format-clause-large g c =
    let p = err_from_is_err_and c.from_residual.result c.from_residual.ensures.1 in
    rw (p.1, p.2)
    (counts_within c.in_err-format.field-0.0 (Contains (exprs_texts (format_exprs c.args.format.now))) (Contains (backend_texts c.args.format.now c.args.cond.now)) _ _ _
    (Contains-append_left (exprs_texts (format_exprs c.args.format.now)) (when_texts c.args.cond.now))
    refl refl c.in_err-format.ensures.large)

pub returns-in_err-cond-clause-large : goal.returns-in_err-cond-clause-large
returns-in_err-cond-clause-large g c =
    let p = err_from_is_err_and c.from_residual-in_err-cond.result c.from_residual-in_err-cond.ensures.1 in
    rw (p.1, p.2)
    (counts_within c.in_err-cond.field-0.0 (Contains (when_texts c.args.cond.now)) (Contains (backend_texts c.args.format.now c.args.cond.now)) _ _ _
    (Contains-append_right (exprs_texts (format_exprs c.args.format.now)) (when_texts c.args.cond.now))
    c.in_ok-format.ensures.large.0 c.in_ok-format.ensures.large.1 c.in_err-cond.ensures.large)
