use Rattle.hx_ebtree.proofs.FrameLemmas.{listed_live, free_off, gone_off}
use Rattle.hx_ebtree.proofs.DistinctLemmas.{listed_distinct, without_length}
use Rattle.hx_ebtree.proofs.laws.a_tree_has_distinct_live_numbers.Goals as goal

pub returns-clause-live : goal.returns-clause-live
returns-clause-live g c p t pairs id stands there = listed_live p t pairs id stands there

pub returns-clause-off : goal.returns-clause-off
returns-clause-off g c p t pairs id stands free = free_off p t pairs id stands free

pub returns-clause-distinct : goal.returns-clause-distinct
returns-clause-distinct g c p t pairs stands = listed_distinct p t pairs stands

pub returns-clause-fewer : goal.returns-clause-fewer
returns-clause-fewer g c p t pairs id stands there = without_length pairs id (listed_distinct p t pairs stands) there

pub returns-clause-gone : goal.returns-clause-gone
returns-clause-gone g c pairs id = gone_off id pairs
