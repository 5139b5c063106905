use Rattle.std.proofs.Common.{arith}
use Rattle.std.specs.Prelude.{Contains}
use Rattle.std.proofs.lemmas.Result.{err_from_is_err_and}
use Rattle.hx_acl.specs.Expressions.{cond_texts, conj_texts}
use Rattle.hx_expr.proofs.CountLemmas.{counts_within}
use Rattle.hx_acl.proofs.TextLemmas.{text_at}
use Rattle.hx_acl.proofs.building.build_cond.Goals as goal

pub returns-in_err-build_conj-clause-large : goal.returns-in_err-build_conj-clause-large
returns-in_err-build_conj-clause-large g c =
    let p = err_from_is_err_and c.from_residual.result c.from_residual.ensures.1 in
    rw (p.1, p.2)
    (counts_within c.in_err-build_conj.field-0.0 (Contains (conj_texts c.conj-item.result)) (Contains (cond_texts c.args.cond.now)) _ _ _
    (text_at conj_texts c.args.cond.now c.loop-conj.conj-index c.conj-item.result (omega arith) c.conj-item.is)
    c.loop-conj.invariant.counted c.loop-conj.invariant.large
    (rw c.as_slice.ensures at c.in_err-build_conj.ensures.large))
