use Rattle.hx_pool.proofs.ListLemmas.{lies_linked, lies_kept}
use Rattle.hx_pool.proofs.LyingLemmas.{lies_updated, lies_same}
use Rattle.hx_pool.proofs.laws.a_chain_keeps_its_list.Goals as goal

pub returns-clause-links : goal.returns-clause-links
returns-clause-links g c = lies_linked g.T.Linked.links_of

pub returns-clause-values : goal.returns-clause-values
returns-clause-values g c = lies_kept g.T.Linked.links_of

pub returns-clause-reserved : goal.returns-clause-reserved
returns-clause-reserved g c = lies_same g.T.Linked.links_of

pub returns-clause-changed : goal.returns-clause-changed
returns-clause-changed g c = lies_updated g.T.Linked.links_of
