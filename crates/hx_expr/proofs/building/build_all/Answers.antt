use Rattle.std.proofs.Common.{[], ◌∷◌, arith}
use Rattle.std.specs.Prelude.{Contains}
use Rattle.std.proofs.lemmas.Result.{err_from_is_err_and}
use Rattle.hx_expr.specs.Expressions.{texts_of}
use Rattle.hx_expr.proofs.CountLemmas.{counts_within}
use Rattle.hx_expr.proofs.ExpressionTextLemmas.{text_at}
use Rattle.hx_expr.proofs.building.build_all.Goals as goal

pub returns-in_err-build-clause-large : goal.returns-in_err-build-clause-large
returns-in_err-build-clause-large g c =
    let p = err_from_is_err_and c.from_residual.result c.from_residual.ensures.1 in
    rw (p.1, p.2)
    (counts_within c.in_err-build.field-0.0 (Contains (texts_of (c.conv-item.result ∷ []))) (Contains (texts_of c.args.convs.now)) _ _ _
    (text_at c.args.convs.now c.loop-conv.conv-index c.conv-item.result (omega arith) c.conv-item.is)
    c.loop-conv.invariant.counted c.loop-conv.invariant.large c.in_err-build.ensures.large)
