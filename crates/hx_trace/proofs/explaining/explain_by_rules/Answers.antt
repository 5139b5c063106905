use Rattle.hx_rules.specs.State.{table_view}
use Rattle.hx_rules.specs.Verdicts.{start}
use Rattle.hx_trace.proofs.StandingLemmas.{stands_where_failed}
use Rattle.hx_trace.proofs.explaining.explain_by_rules.Goals as goal

pub returns-in_err-held-clause-stands : goal.returns-in_err-held-clause-stands
returns-in_err-held-clause-stands g c =
    stands_where_failed (table_view g.T.Tables.heads g.T.Tables.lists g.T.Tables.after_change) c.args.conn.now c.args.rules.now
    (start c.args.message.now c.args.vars.now (g.T.Tables.state c.args.tables.now))
    c.decide.new.message c.decide.new.vars (g.T.Tables.state c.decide.new.tables) c.from_residual-in_err-held.result
    c.in_ok-decided.ensures.message c.in_ok-decided.ensures.vars c.in_ok-decided.ensures.tables
