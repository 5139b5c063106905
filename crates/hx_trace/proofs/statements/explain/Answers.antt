use Rattle.std.proofs.Common.{◌≡◌, ◌∙◌, ap, List, ℕ}
use Rattle.hx_rules.specs.State.{table_view}
use Rattle.hx_rules.specs.Verdicts.{evaluation, start}
use Rattle.hx_trace.specs.Statements.{NumberedRules}
use Rattle.hx_trace.specs.Why.{Cause, Why, cause_of, told_why}
use Rattle.hx_trace.proofs.StandingLemmas.{stands_where_failed}
use Rattle.hx_trace.proofs.statements.explain.Goals as goal

told_by : (numbers known : List ℕ) (cause found : Cause) (why : Why) → numbers ≡ known → cause ≡ found
    → why ≡ told_why numbers cause → why ≡ told_why known found
told_by numbers known cause found why same_numbers same_cause told = cc

pub returns-clause-why : goal.returns-clause-why
returns-clause-why g c =
    told_by _ c.args.prog.now.numbers c.in_ok-verdict.cause
    (cause_of (table_view g.T.Tables.heads g.T.Tables.lists g.T.Tables.after_change) c.args.conn.now c.args.prog.now.program
    (start c.args.message.now c.args.vars.now (g.T.Tables.state c.args.tables.now)))
    c.in_ok-why.why
    (c.as_slice.ensures.value ∙ ap (λ (p : NumberedRules). p.numbers) c.prog.view_is)
    (c.in_ok-verdict.ensures.cause
    ∙ ap (λ (p : NumberedRules). cause_of (table_view g.T.Tables.heads g.T.Tables.lists g.T.Tables.after_change) c.args.conn.now p.program
    (start c.args.message.now c.args.vars.now (g.T.Tables.state c.args.tables.now))) c.prog.view_is)
    c.in_ok-why.ensures

pub returns-in_err-why-clause-stands : goal.returns-in_err-why-clause-stands
returns-in_err-why-clause-stands g c =
    let view = table_view g.T.Tables.heads g.T.Tables.lists g.T.Tables.after_change in
    let origin = start c.args.message.now c.args.vars.now (g.T.Tables.state c.args.tables.now) in
    stands_where_failed view c.args.conn.now c.args.prog.now.program origin
    c.explain_by_rules.new.message c.explain_by_rules.new.vars (g.T.Tables.state c.explain_by_rules.new.tables) c.from_residual-in_err-why.result
    (c.in_ok-verdict.ensures.message ∙ ap (λ (p : NumberedRules). (evaluation view c.args.conn.now p.program origin).state.message) c.prog.view_is)
    (c.in_ok-verdict.ensures.vars ∙ ap (λ (p : NumberedRules). (evaluation view c.args.conn.now p.program origin).state.vars) c.prog.view_is)
    (c.in_ok-verdict.ensures.tables ∙ ap (λ (p : NumberedRules). (evaluation view c.args.conn.now p.program origin).state.tables) c.prog.view_is)
