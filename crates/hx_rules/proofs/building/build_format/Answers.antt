use Rattle.std.proofs.Common.{arith, ap, length}
use Rattle.std.specs.Prelude.{Contains}
use Rattle.std.proofs.lemmas.Result.{err_from_is_err_and}
use Rattle.hx_expr.proofs.CountLemmas.{counts_within}
use Rattle.hx_rules.specs.Building.{exprs_texts, format_exprs, part_exprs}
use Rattle.hx_rules.proofs.TextLemmas.{text_at}
use Rattle.hx_rules.proofs.building.build_format.Goals as goal

pub returns-in_err-build_part-clause-large : goal.returns-in_err-build_part-clause-large
returns-in_err-build_part-clause-large g c =
    let p = err_from_is_err_and c.from_residual.result c.from_residual.ensures.1 in
    rw (p.1, p.2)
    (counts_within c.in_err-build_part.field-0.0 (Contains (exprs_texts (part_exprs c.part-item.result))) (Contains (exprs_texts (format_exprs c.args.format.now))) _ _ _
    (text_at c.args.format.now c.loop-part.part-index c.part-item.result (omega (arith, ap length c.as_slice-part-items.ensures)) (rw c.as_slice-part-items.ensures at c.part-item.is))
    c.loop-part.invariant.counted c.loop-part.invariant.large c.in_err-build_part.ensures.large)
