use Rattle.hx_http.proofs.TargetEditLemmas.{new_path_at, path_of_new}
use Rattle.hx_http.proofs.laws.target_with_another_path.Goals as goal

pub returns-clause-parts : goal.returns-clause-parts
returns-clause-parts c = new_path_at c.args.target.now c.args.path.now

pub returns-clause-path : goal.returns-clause-path
returns-clause-path c = path_of_new c.args.target.now c.args.path.now
