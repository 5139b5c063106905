use Rattle.std.proofs.lemmas.Result.{err_from_is_err_and}
use Rattle.hx_load.proofs.StatementLemmas.{patterns_judged, push_fault}
use Rattle.hx_load.proofs.statements.push_statement.Goals as goal

pub returns-in_err-push-clause-judged : goal.returns-in_err-push-clause-judged
returns-in_err-push-clause-judged g c =
    let p = err_from_is_err_and c.from_residual.result c.from_residual.ensures.1 in
    let said = c.in_err-push.ensures in
    rw (p.1, p.2)
    (push_fault c.args.statement.now c.in_err-push.field-0.0 _ _ said.bad_type said.bad_pattern
    said.large)

pub returns-clause-judged : goal.returns-clause-judged
returns-clause-judged g c =
    let said = c.in_ok-push.ensures in
    patterns_judged c.args.statement.now _ _ _ c.judge_statement.result said.types
    said.expressions (record { count = said.large.0; last = said.large.1 })
    c.judge_statement.ensures
