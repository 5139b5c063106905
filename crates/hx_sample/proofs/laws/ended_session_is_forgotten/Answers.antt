use Rattle.hx_sample.proofs.LawLemmas.{session_ended, other_session_stays}
use Rattle.hx_sample.proofs.laws.ended_session_is_forgotten.Goals as goal

pub returns-clause-none : goal.returns-clause-none
returns-clause-none c = λ conn n owns. session_ended c.args.vars.now c.args.conn conn n owns

pub returns-clause-others : goal.returns-clause-others
returns-clause-others c = λ conn n other. other_session_stays c.args.vars.now c.args.conn conn n other
