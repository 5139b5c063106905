use Rattle.hx_refs.specs.Numbers.{HasVersionsInOrder, NumbersRise}
use Rattle.hx_refs.proofs.FilledLemmas.{all_seen}
use Rattle.hx_refs.proofs.ReferenceLemmas.{numbers_rise, versions_in_order}
use Rattle.hx_refs.proofs.kept_references.KeptReferences.are_numbered.Goals as goal

pub returns-clause-versions : goal.returns-clause-versions
returns-clause-versions c =
    rw (← c.self.view_is)
    (all_seen HasVersionsInOrder c.self.inside.references.items c.self.inside.store c.self.invariant versions_in_order)

pub returns-clause-entries : goal.returns-clause-entries
returns-clause-entries c =
    rw (← c.self.view_is)
    (all_seen NumbersRise c.self.inside.references.items c.self.inside.store c.self.invariant numbers_rise)
