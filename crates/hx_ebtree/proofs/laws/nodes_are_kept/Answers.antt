use Rattle.hx_ebtree.proofs.NodeLemmas.{kept_self, kept_on, kept_live, kept_relinked}
use Rattle.hx_ebtree.proofs.laws.nodes_are_kept.Goals as goal

pub returns-clause-none : goal.returns-clause-none
returns-clause-none g c p = kept_self p

pub returns-clause-both : goal.returns-clause-both
returns-clause-both g c p q r first second = kept_on p q r first second

pub returns-clause-live : goal.returns-clause-live
returns-clause-live g c old new id kept live = kept_live old new id kept live

pub returns-clause-relinked : goal.returns-clause-relinked
returns-clause-relinked g c old new values = kept_relinked old new values
