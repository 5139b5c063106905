use Rattle.hx_sample.proofs.LawLemmas.{request_ended}
use Rattle.hx_sample.proofs.laws.ended_request_is_forgotten.Goals as goal

pub returns : goal.returns
returns c = request_ended c.args.vars.now c.args.conn c.args.name.now
