use Rattle.hx_sample.proofs.FindLemmas.{longest_network_found, nearest_found}
use Rattle.hx_sample.proofs.laws.nearest_network_is_found.Goals as goal

pub returns-clause-near : goal.returns-clause-near
returns-clause-near c = λ entries ip. nearest_found c.args.ci ip entries

pub returns-clause-long : goal.returns-clause-long
returns-clause-long c = λ entries ip. longest_network_found c.args.ci ip entries
