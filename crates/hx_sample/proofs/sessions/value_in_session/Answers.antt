use Rattle.std.proofs.Common.{sym}
use Rattle.std.specs.BTreeMap as tree
use Rattle.std.specs.Ordering.{nat_cmp}
use Rattle.hx_sample.specs.declared.stored_variable.Owner.TheVariants.{Session}
use Rattle.hx_sample.proofs.VarLemmas.{session_leads, session_none, session_nowhere}
use Rattle.hx_sample.proofs.sessions.value_in_session.Goals as goal

pub value_in-requires-clause-leads : goal.value_in-requires-clause-leads
value_in-requires-clause-leads c =
    let l = session_leads c.args.slots.now c.args.conn (tree.get nat_cmp c.args.sessions.now c.args.conn) c.in-Some.chain.now c.requires (sym c.in-Some.ensures.value) in
    (Session c.args.conn, l.0, l.1)

pub returns-in-Some : goal.returns-in-Some
returns-in-Some c =
    let l = session_leads c.args.slots.now c.args.conn (tree.get nat_cmp c.args.sessions.now c.args.conn) c.in-Some.chain.now c.requires (sym c.in-Some.ensures.value) in
    c.value_in.ensures (Session c.args.conn) l.0 l.1

pub returns-in-None : goal.returns-in-None
returns-in-None c =
    session_nowhere c.args.slots.now c.args.conn c.args.name.now (session_none c.args.slots.now c.args.conn (tree.get nat_cmp c.args.sessions.now c.args.conn) c.requires (sym c.in-None.ensures.value))
