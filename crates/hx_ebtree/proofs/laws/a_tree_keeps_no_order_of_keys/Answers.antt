use Rattle.hx_ebtree.proofs.FrameLemmas.{tree_order}
use Rattle.hx_ebtree.proofs.laws.a_tree_keeps_no_order_of_keys.Goals as goal

pub returns : goal.returns
returns g c p t pairs others stands same = tree_order p t pairs others same stands
