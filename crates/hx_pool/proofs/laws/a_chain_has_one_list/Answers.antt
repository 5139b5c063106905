use Rattle.hx_pool.proofs.ListLemmas.{lies_numbers, lies_unique}
use Rattle.hx_pool.proofs.LyingLemmas.{lies_live, free_off}
use Rattle.hx_pool.proofs.laws.a_chain_has_one_list.Goals as goal

pub returns-clause-numbers : goal.returns-clause-numbers
returns-clause-numbers g c = lies_numbers g.T.Linked.links_of

pub returns-clause-one : goal.returns-clause-one
returns-clause-one g c = lies_unique g.T.Linked.links_of

pub returns-clause-distinct : goal.returns-clause-distinct
returns-clause-distinct g c p chain xs lies = lies.distinct

pub returns-clause-live : goal.returns-clause-live
returns-clause-live g c = lies_live g.T.Linked.links_of

pub returns-clause-off : goal.returns-clause-off
returns-clause-off g c = free_off g.T.Linked.links_of
