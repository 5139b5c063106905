use Rattle.hx_http.proofs.TargetLemmas.{path_parts, path_only}
use Rattle.hx_http.proofs.laws.path_of_a_target.Goals as goal

pub returns-clause-parts : goal.returns-clause-parts
returns-clause-parts c = path_parts c.args.target.now

pub returns-clause-only : goal.returns-clause-only
returns-clause-only c = path_only c.args.target.now
