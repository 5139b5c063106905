use Rattle.std.proofs.Common.{arith}
use Rattle.std.specs.Prelude.{Contains}
use Rattle.std.proofs.lemmas.Result.{err_from_is_err_and}
use Rattle.hx_acl.specs.Expressions.{conj_texts, use_texts}
use Rattle.hx_expr.proofs.CountLemmas.{counts_within}
use Rattle.hx_acl.proofs.TextLemmas.{text_at}
use Rattle.hx_acl.proofs.building.build_conj.Goals as goal

pub returns-in_err-acl-clause-large : goal.returns-in_err-acl-clause-large
returns-in_err-acl-clause-large g c =
    let p = err_from_is_err_and c.from_residual.result c.from_residual.ensures.1 in
    rw (p.1, p.2)
    (counts_within c.in_err-acl.field-0.0 (Contains (use_texts c.term-item.result.acl)) (Contains (conj_texts c.args.conj.now)) _ _ _
    (text_at (λ term. use_texts term.acl) c.args.conj.now c.loop-term.term-index c.term-item.result (omega arith) c.term-item.is)
    c.loop-term.invariant.counted c.loop-term.invariant.large c.in_err-acl.ensures.large)
