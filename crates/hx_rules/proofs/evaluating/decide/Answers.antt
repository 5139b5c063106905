use Rattle.std.proofs.Common.{rules, ◌≡◌}
use Rattle.hx_rules.specs.RequestView.{state_of}
use Rattle.hx_rules.specs.State.{table_view}
use Rattle.hx_rules.specs.Verdicts.{start}
use Rattle.hx_rules.proofs.RewritingLemmas.{head_stays}
use Rattle.hx_rules.proofs.evaluating.decide.Goals as goal

pub returns-clause-unchanged : goal.returns-clause-unchanged
returns-clause-unchanged g c none =
    let stays : c.decided.new.self.message.now ≡ c.args.message.now = head_stays (table_view g.T.Tables.heads g.T.Tables.lists g.T.Tables.after_change) c.args.conn.now c.args.program.now
    (start c.args.message.now c.args.vars.now (g.T.Tables.state c.args.tables.now)) (state_of g.T.Tables.state c.decided.new.self)
    c.decided.result c.decided.ensures.ok c.decided.ensures.stands none in
    search (rules, stays)
