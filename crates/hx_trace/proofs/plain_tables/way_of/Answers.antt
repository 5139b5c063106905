use Rattle.hx_trace.proofs.WayLemmas.{head_at}
use Rattle.hx_trace.proofs.plain_tables.way_of.Goals as goal

pub returns-then-number-head-clause-head : goal.returns-then-number-head-clause-head
returns-then-number-head-clause-head c =
    head_at c.args.refs.now.content.heads c.in_ok-list.list c.loop-k.k c.in_ok-by.by c.in_ok-by.ci c.in_ok-by.number c.args.head
    c.in_ok-by.ensures c.if-number-head.true
