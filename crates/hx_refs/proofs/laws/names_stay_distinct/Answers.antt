use Rattle.hx_refs.specs.References.{new_reference}
use Rattle.hx_refs.proofs.NameLemmas.{own_names_more, own_names_stay}
use Rattle.hx_refs.proofs.laws.names_stay_distinct.Goals as goal

pub returns-clause-new : goal.returns-clause-new
returns-clause-new c = λ refs id file two_column acl number name.
    own_names_more refs.references (new_reference refs.first id file two_column acl) number name

pub returns-clause-change : goal.returns-clause-change
returns-clause-change c = λ refs. own_names_stay refs.references
