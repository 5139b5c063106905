use Rattle.hx_http.proofs.TargetLemmas.{query_whole, query_first}
use Rattle.hx_http.proofs.laws.query_of_a_target.Goals as goal

pub returns-clause-whole : goal.returns-clause-whole
returns-clause-whole c = query_whole c.args.target.now

pub returns-clause-first : goal.returns-clause-first
returns-clause-first c = query_first c.args.target.now
