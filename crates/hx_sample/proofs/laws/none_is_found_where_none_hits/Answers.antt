use Rattle.hx_sample.proofs.FindLemmas.{none_found, found_none}
use Rattle.hx_sample.proofs.laws.none_is_found_where_none_hits.Goals as goal

pub returns : goal.returns
returns c = λ entries v. (none_found c.args.by c.args.ci entries v, found_none c.args.by c.args.ci entries v)
