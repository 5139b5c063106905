use Rattle.hx_sample.specs.declared.stored_variable.Owner.TheVariants.{Session}
use Rattle.hx_sample.proofs.OwnerLemmas.{session_step}
use Rattle.hx_sample.proofs.VarLemmas.{session_seen}
use Rattle.hx_sample.proofs.vars.Vars.end_session.Goals as goal

pub clear_session-requires : goal.clear_session-requires
clear_session-requires c = c.self.invariant.owners (Session c.args.conn)

pub returns : goal.returns
returns c =
    session_seen c.self.inside.slots c.clear_session.new.slots c.args.self.now c.args.conn _ c.self.view_is c.self.invariant.alone c.clear_session.ensures.step c.clear_session.ensures.gone c.clear_session.ensures.loses

pub invariant_of-self : goal.invariant_of-self
invariant_of-self c =
    session_step c.self.inside c.clear_session.new.slots c.clear_session.new.sessions c.args.conn c.clear_session.ensures.others c.self.invariant c.clear_session.ensures.step
