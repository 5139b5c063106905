use Rattle.hx_http.proofs.TargetEditLemmas.{path_after_query, query_added, query_in_place}
use Rattle.hx_http.proofs.laws.target_with_another_query.Goals as goal

pub returns-clause-path : goal.returns-clause-path
returns-clause-path c = path_after_query c.args.target.now c.args.query.now

pub returns-clause-some : goal.returns-clause-some
returns-clause-some c = query_in_place c.args.target.now c.args.query.now

pub returns-clause-added : goal.returns-clause-added
returns-clause-added c = query_added c.args.target.now c.args.query.now
