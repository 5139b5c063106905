use Rattle.hx_http.proofs.TargetLemmas.{another_path}
use Rattle.hx_http.proofs.laws.another_path_in_a_target.Goals as goal

pub returns : goal.returns
returns c = another_path c.args.target.now c.args.path.now
