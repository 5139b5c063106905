use Rattle.std.proofs.Common.{ap, ◌∙◌}
use Rattle.std.proofs.lemmas.Result.{on_ok_weaker, on_err_weaker}
use Rattle.hx_sample.specs.declared.stored_variable.Owner.TheVariants.{Process, Session, Transaction, Request, Response}
use Rattle.hx_text.specs.declared.names.Scope.TheVariants.{Proc, Sess, Txn, Req, Res}
use Rattle.hx_sample.specs.Slots.{vars_in}
use Rattle.hx_sample.proofs.OwnerLemmas.{process_step, request_step, response_step, session_set_step, session_step, set_step, transaction_step}
use Rattle.hx_sample.proofs.VarLemmas.{set_seen}
use Rattle.hx_sample.proofs.vars.Vars.set.Goals as goal

pub set_in_session-requires : goal.set_in_session-requires
set_in_session-requires c = c.self.invariant.owners (Session c.args.conn)

pub returns-in-Sess-clause-ok : goal.returns-in-Sess-clause-ok
returns-in-Sess-clause-ok c =
    on_ok_weaker c.set_in_session.result
    (λ sets. set_seen c.self.inside.slots c.set_in_session.new.slots c.args.self.now c.args.conn Sess c.args.name.now c.args.value c.self.view_is c.in-Sess.is (sets c.self.invariant.alone).1)
    c.set_in_session.ensures.ok

pub returns-in-Sess-clause-err : goal.returns-in-Sess-clause-err
returns-in-Sess-clause-err c =
    on_err_weaker c.set_in_session.result (λ same. ap vars_in same.0 ∙ c.self.view_is) c.set_in_session.ensures.err

pub invariant_of-self-in-Sess : goal.invariant_of-self-in-Sess
invariant_of-self-in-Sess c =
    let call = c.set_in_session in
    session_step c.self.inside call.new.slots call.new.sessions c.args.conn call.ensures.others c.self.invariant
    (session_set_step c.self.inside.slots call.new.slots (Session c.args.conn) _ c.self.invariant.alone _ call.result call.ensures.ok call.ensures.err)

pub set_in-requires-clause-leads : goal.set_in-requires-clause-leads
set_in-requires-clause-leads c = c.self.invariant.owners Process

pub returns-in-Proc-clause-ok : goal.returns-in-Proc-clause-ok
returns-in-Proc-clause-ok c =
    let l = c.self.invariant.owners Process in
    on_ok_weaker c.set_in.result
    (λ sets. set_seen c.self.inside.slots c.set_in.new.slots c.args.self.now c.args.conn Proc c.args.name.now c.args.value c.self.view_is c.in-Proc.is (sets l.0 l.1 c.self.invariant.alone).1)
    c.set_in.ensures.ok

pub returns-in-Proc-clause-err : goal.returns-in-Proc-clause-err
returns-in-Proc-clause-err c =
    on_err_weaker c.set_in.result (λ same. ap vars_in same.0 ∙ c.self.view_is) c.set_in.ensures.err

pub invariant_of-self : goal.invariant_of-self
invariant_of-self c =
    let call = c.set_in in
    let l = c.self.invariant.owners Process in
    process_step c.self.inside call.new.slots call.new.chain c.self.invariant
    (set_step c.self.inside.slots call.new.slots Process c.self.inside.process call.new.chain l.0 l.1 c.self.invariant.alone _ call.result call.ensures.ok call.ensures.err)

pub set_in-requires-in-Txn-clause-leads : goal.set_in-requires-in-Txn-clause-leads
set_in-requires-in-Txn-clause-leads c = c.self.invariant.owners Transaction

pub returns-in-Txn-clause-ok : goal.returns-in-Txn-clause-ok
returns-in-Txn-clause-ok c =
    let l = c.self.invariant.owners Transaction in
    on_ok_weaker c.set_in-in-Txn.result
    (λ sets. set_seen c.self.inside.slots c.set_in-in-Txn.new.slots c.args.self.now c.args.conn Txn c.args.name.now c.args.value c.self.view_is c.in-Txn.is (sets l.0 l.1 c.self.invariant.alone).1)
    c.set_in-in-Txn.ensures.ok

pub returns-in-Txn-clause-err : goal.returns-in-Txn-clause-err
returns-in-Txn-clause-err c =
    on_err_weaker c.set_in-in-Txn.result (λ same. ap vars_in same.0 ∙ c.self.view_is) c.set_in-in-Txn.ensures.err

pub invariant_of-self-in-Txn : goal.invariant_of-self-in-Txn
invariant_of-self-in-Txn c =
    let call = c.set_in-in-Txn in
    let l = c.self.invariant.owners Transaction in
    transaction_step c.self.inside call.new.slots call.new.chain c.self.invariant
    (set_step c.self.inside.slots call.new.slots Transaction c.self.inside.transaction call.new.chain l.0 l.1 c.self.invariant.alone _ call.result call.ensures.ok call.ensures.err)

pub set_in-requires-in-Req-clause-leads : goal.set_in-requires-in-Req-clause-leads
set_in-requires-in-Req-clause-leads c = c.self.invariant.owners Request

pub returns-in-Req-clause-ok : goal.returns-in-Req-clause-ok
returns-in-Req-clause-ok c =
    let l = c.self.invariant.owners Request in
    on_ok_weaker c.set_in-in-Req.result
    (λ sets. set_seen c.self.inside.slots c.set_in-in-Req.new.slots c.args.self.now c.args.conn Req c.args.name.now c.args.value c.self.view_is c.in-Req.is (sets l.0 l.1 c.self.invariant.alone).1)
    c.set_in-in-Req.ensures.ok

pub returns-in-Req-clause-err : goal.returns-in-Req-clause-err
returns-in-Req-clause-err c =
    on_err_weaker c.set_in-in-Req.result (λ same. ap vars_in same.0 ∙ c.self.view_is) c.set_in-in-Req.ensures.err

pub invariant_of-self-in-Req : goal.invariant_of-self-in-Req
invariant_of-self-in-Req c =
    let call = c.set_in-in-Req in
    let l = c.self.invariant.owners Request in
    request_step c.self.inside call.new.slots call.new.chain c.self.invariant
    (set_step c.self.inside.slots call.new.slots Request c.self.inside.request call.new.chain l.0 l.1 c.self.invariant.alone _ call.result call.ensures.ok call.ensures.err)

pub set_in-requires-in-Res-clause-leads : goal.set_in-requires-in-Res-clause-leads
set_in-requires-in-Res-clause-leads c = c.self.invariant.owners Response

pub returns-in-Res-clause-ok : goal.returns-in-Res-clause-ok
returns-in-Res-clause-ok c =
    let l = c.self.invariant.owners Response in
    on_ok_weaker c.set_in-in-Res.result
    (λ sets. set_seen c.self.inside.slots c.set_in-in-Res.new.slots c.args.self.now c.args.conn Res c.args.name.now c.args.value c.self.view_is c.in-Res.is (sets l.0 l.1 c.self.invariant.alone).1)
    c.set_in-in-Res.ensures.ok

pub returns-in-Res-clause-err : goal.returns-in-Res-clause-err
returns-in-Res-clause-err c =
    on_err_weaker c.set_in-in-Res.result (λ same. ap vars_in same.0 ∙ c.self.view_is) c.set_in-in-Res.ensures.err

pub invariant_of-self-in-Res : goal.invariant_of-self-in-Res
invariant_of-self-in-Res c =
    let call = c.set_in-in-Res in
    let l = c.self.invariant.owners Response in
    response_step c.self.inside call.new.slots call.new.chain c.self.invariant
    (set_step c.self.inside.slots call.new.slots Response c.self.inside.response call.new.chain l.0 l.1 c.self.invariant.alone _ call.result call.ensures.ok call.ensures.err)
