use Rattle.hx_ebtree.proofs.FrameLemmas.{tree_frame, tree_updated}
use Rattle.hx_ebtree.proofs.laws.a_tree_keeps_its_list.Goals as goal

pub returns-clause-values : goal.returns-clause-values
returns-clause-values g c old new t pairs stands same = tree_frame old new t pairs same stands

pub returns-clause-reserved : goal.returns-clause-reserved
returns-clause-reserved g c old new t pairs stands same = tree_frame old new t pairs (λ k _. same k) stands

pub returns-clause-changed : goal.returns-clause-changed
returns-clause-changed g c old new t pairs id value stands off updates = tree_updated old new t pairs id value updates off stands
