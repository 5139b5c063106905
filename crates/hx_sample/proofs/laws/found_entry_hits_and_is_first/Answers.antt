use Rattle.hx_sample.proofs.FindLemmas.{found_hits, found_first}
use Rattle.hx_sample.proofs.laws.found_entry_hits_and_is_first.Goals as goal

pub returns-clause-hits : goal.returns-clause-hits
returns-clause-hits c = found_hits c.args.by c.args.ci

pub returns-clause-first : goal.returns-clause-first
returns-clause-first c = found_first c.args.by c.args.ci
