use Rattle.std.proofs.Common.{◌++◌, refl}
use Rattle.std.specs.Prelude.{Contains}
use Rattle.std.proofs.lemmas.Result.{err_from_is_err_and}
use Rattle.hx_expr.proofs.CountLemmas.{counts_within}
use Rattle.hx_rules.specs.Building.{exprs_texts, format_exprs}
use Rattle.hx_rules.proofs.TextLemmas.{text_first, text_second}
use Rattle.hx_rules.proofs.building.build_map_change.Goals as goal

pub returns-in_err-key-clause-large : goal.returns-in_err-key-clause-large
returns-in_err-key-clause-large g c =
    let p = err_from_is_err_and c.from_residual.result c.from_residual.ensures.1 in
    rw (p.1, p.2)
    (counts_within c.in_err-key.field-0.0 (Contains (exprs_texts (format_exprs c.args.key.now))) (Contains (exprs_texts (format_exprs c.args.key.now ++ format_exprs c.args.value.now))) _ _ _
    (text_first (format_exprs c.args.key.now) (format_exprs c.args.value.now))
    refl refl c.in_err-key.ensures.large)

pub returns-in_err-value-clause-large : goal.returns-in_err-value-clause-large
returns-in_err-value-clause-large g c =
    let p = err_from_is_err_and c.from_residual-in_err-value.result c.from_residual-in_err-value.ensures.1 in
    rw (p.1, p.2)
    (counts_within c.in_err-value.field-0.0 (Contains (exprs_texts (format_exprs c.args.value.now))) (Contains (exprs_texts (format_exprs c.args.key.now ++ format_exprs c.args.value.now))) _ _ _
    (text_second (format_exprs c.args.key.now) (format_exprs c.args.value.now))
    c.in_ok-key.ensures.large.0 c.in_ok-key.ensures.large.1 c.in_err-value.ensures.large)
