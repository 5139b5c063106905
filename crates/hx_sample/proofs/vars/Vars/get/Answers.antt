use Rattle.hx_sample.specs.declared.stored_variable.Owner.TheVariants.{Process, Session, Transaction, Request, Response}
use Rattle.hx_text.specs.declared.names.Scope.TheVariants.{Proc, Sess, Txn, Req, Res}
use Rattle.std.specs.Option.{option_copied}
use Rattle.hx_sample.specs.Chains.{chain_of}
use Rattle.hx_sample.proofs.VarLemmas.{got_seen}
use Rattle.hx_sample.proofs.vars.Vars.get.Goals as goal

pub value_in_session-requires : goal.value_in_session-requires
value_in_session-requires c = c.self.invariant.owners (Session c.args.conn)

pub returns-in-Sess : goal.returns-in-Sess
returns-in-Sess c =
    got_seen c.self.inside.slots (chain_of c.self.inside) c.args.self.now c.args.conn Sess c.args.name.now (option_copied c.value_in_session.result) c.self.view_is c.self.invariant c.in-Sess.is c.value_in_session.ensures

pub value_in-requires-clause-leads : goal.value_in-requires-clause-leads
value_in-requires-clause-leads c =
    let l = c.self.invariant.owners Process in
    (Process, l.0, l.1)

pub returns-in-Proc : goal.returns-in-Proc
returns-in-Proc c =
    let l = c.self.invariant.owners Process in
    got_seen c.self.inside.slots (chain_of c.self.inside) c.args.self.now c.args.conn Proc c.args.name.now (option_copied c.value_in.result) c.self.view_is c.self.invariant c.in-Proc.is (c.value_in.ensures Process l.0 l.1)

pub value_in-requires-in-Txn-clause-leads : goal.value_in-requires-in-Txn-clause-leads
value_in-requires-in-Txn-clause-leads c =
    let l = c.self.invariant.owners Transaction in
    (Transaction, l.0, l.1)

pub returns-in-Txn : goal.returns-in-Txn
returns-in-Txn c =
    let l = c.self.invariant.owners Transaction in
    got_seen c.self.inside.slots (chain_of c.self.inside) c.args.self.now c.args.conn Txn c.args.name.now (option_copied c.value_in-in-Txn.result) c.self.view_is c.self.invariant c.in-Txn.is (c.value_in-in-Txn.ensures Transaction l.0 l.1)

pub value_in-requires-in-Req-clause-leads : goal.value_in-requires-in-Req-clause-leads
value_in-requires-in-Req-clause-leads c =
    let l = c.self.invariant.owners Request in
    (Request, l.0, l.1)

pub returns-in-Req : goal.returns-in-Req
returns-in-Req c =
    let l = c.self.invariant.owners Request in
    got_seen c.self.inside.slots (chain_of c.self.inside) c.args.self.now c.args.conn Req c.args.name.now (option_copied c.value_in-in-Req.result) c.self.view_is c.self.invariant c.in-Req.is (c.value_in-in-Req.ensures Request l.0 l.1)

pub value_in-requires-in-Res-clause-leads : goal.value_in-requires-in-Res-clause-leads
value_in-requires-in-Res-clause-leads c =
    let l = c.self.invariant.owners Response in
    (Response, l.0, l.1)

pub returns-in-Res : goal.returns-in-Res
returns-in-Res c =
    let l = c.self.invariant.owners Response in
    got_seen c.self.inside.slots (chain_of c.self.inside) c.args.self.now c.args.conn Res c.args.name.now (option_copied c.value_in-in-Res.result) c.self.view_is c.self.invariant c.in-Res.is (c.value_in-in-Res.ensures Response l.0 l.1)
