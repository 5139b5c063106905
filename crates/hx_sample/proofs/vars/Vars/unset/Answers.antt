use Rattle.hx_sample.specs.declared.stored_variable.Owner.TheVariants.{Process, Session, Transaction, Request, Response}
use Rattle.hx_text.specs.declared.names.Scope.TheVariants.{Proc, Sess, Txn, Req, Res}
use Rattle.hx_sample.proofs.OwnerLemmas.{process_step, request_step, response_step, session_step, transaction_step}
use Rattle.hx_sample.proofs.VarLemmas.{unset_seen}
use Rattle.hx_sample.proofs.vars.Vars.unset.Goals as goal

pub unset_in_session-requires : goal.unset_in_session-requires
unset_in_session-requires c = c.self.invariant.owners (Session c.args.conn)

pub returns-in-Sess : goal.returns-in-Sess
returns-in-Sess c =
    unset_seen c.self.inside.slots c.unset_in_session.new.slots c.args.self.now c.args.conn Sess c.args.name.now c.self.view_is c.in-Sess.is (c.unset_in_session.ensures.unset c.self.invariant.alone).1

pub invariant_of-self-in-Sess : goal.invariant_of-self-in-Sess
invariant_of-self-in-Sess c =
    session_step c.self.inside c.unset_in_session.new.slots c.unset_in_session.new.sessions c.args.conn c.unset_in_session.ensures.others c.self.invariant (c.unset_in_session.ensures.unset c.self.invariant.alone).0

pub unset_in-requires-clause-leads : goal.unset_in-requires-clause-leads
unset_in-requires-clause-leads c =
    let l = c.self.invariant.owners Process in
    (Process, l.0, l.1)

pub returns-in-Proc : goal.returns-in-Proc
returns-in-Proc c =
    let l = c.self.invariant.owners Process in
    unset_seen c.self.inside.slots c.unset_in.new.slots c.args.self.now c.args.conn Proc c.args.name.now c.self.view_is c.in-Proc.is (c.unset_in.ensures Process l.0 l.1 c.self.invariant.alone).1

pub invariant_of-self : goal.invariant_of-self
invariant_of-self c =
    let l = c.self.invariant.owners Process in
    process_step c.self.inside c.unset_in.new.slots c.unset_in.new.chain c.self.invariant (c.unset_in.ensures Process l.0 l.1 c.self.invariant.alone).0

pub unset_in-requires-in-Txn-clause-leads : goal.unset_in-requires-in-Txn-clause-leads
unset_in-requires-in-Txn-clause-leads c =
    let l = c.self.invariant.owners Transaction in
    (Transaction, l.0, l.1)

pub returns-in-Txn : goal.returns-in-Txn
returns-in-Txn c =
    let l = c.self.invariant.owners Transaction in
    unset_seen c.self.inside.slots c.unset_in-in-Txn.new.slots c.args.self.now c.args.conn Txn c.args.name.now c.self.view_is c.in-Txn.is (c.unset_in-in-Txn.ensures Transaction l.0 l.1 c.self.invariant.alone).1

pub invariant_of-self-in-Txn : goal.invariant_of-self-in-Txn
invariant_of-self-in-Txn c =
    let l = c.self.invariant.owners Transaction in
    transaction_step c.self.inside c.unset_in-in-Txn.new.slots c.unset_in-in-Txn.new.chain c.self.invariant (c.unset_in-in-Txn.ensures Transaction l.0 l.1 c.self.invariant.alone).0

pub unset_in-requires-in-Req-clause-leads : goal.unset_in-requires-in-Req-clause-leads
unset_in-requires-in-Req-clause-leads c =
    let l = c.self.invariant.owners Request in
    (Request, l.0, l.1)

pub returns-in-Req : goal.returns-in-Req
returns-in-Req c =
    let l = c.self.invariant.owners Request in
    unset_seen c.self.inside.slots c.unset_in-in-Req.new.slots c.args.self.now c.args.conn Req c.args.name.now c.self.view_is c.in-Req.is (c.unset_in-in-Req.ensures Request l.0 l.1 c.self.invariant.alone).1

pub invariant_of-self-in-Req : goal.invariant_of-self-in-Req
invariant_of-self-in-Req c =
    let l = c.self.invariant.owners Request in
    request_step c.self.inside c.unset_in-in-Req.new.slots c.unset_in-in-Req.new.chain c.self.invariant (c.unset_in-in-Req.ensures Request l.0 l.1 c.self.invariant.alone).0

pub unset_in-requires-in-Res-clause-leads : goal.unset_in-requires-in-Res-clause-leads
unset_in-requires-in-Res-clause-leads c =
    let l = c.self.invariant.owners Response in
    (Response, l.0, l.1)

pub returns-in-Res : goal.returns-in-Res
returns-in-Res c =
    let l = c.self.invariant.owners Response in
    unset_seen c.self.inside.slots c.unset_in-in-Res.new.slots c.args.self.now c.args.conn Res c.args.name.now c.self.view_is c.in-Res.is (c.unset_in-in-Res.ensures Response l.0 l.1 c.self.invariant.alone).1

pub invariant_of-self-in-Res : goal.invariant_of-self-in-Res
invariant_of-self-in-Res c =
    let l = c.self.invariant.owners Response in
    response_step c.self.inside c.unset_in-in-Res.new.slots c.unset_in-in-Res.new.chain c.self.invariant (c.unset_in-in-Res.ensures Response l.0 l.1 c.self.invariant.alone).0
