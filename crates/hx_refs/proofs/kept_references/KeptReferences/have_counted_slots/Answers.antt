use Rattle.hx_refs.proofs.SlotCountLemmas.{least_counted, most_counted}
use Rattle.hx_refs.proofs.kept_references.KeptReferences.have_counted_slots.Goals as goal

pub returns-clause-least : goal.returns-clause-least
returns-clause-least c =
    rw (← c.self.view_is) (least_counted c.self.inside.references.items c.self.inside.store c.self.invariant)

pub returns-clause-most : goal.returns-clause-most
returns-clause-most c =
    rw (← c.self.view_is) (most_counted c.self.inside.references.items c.self.inside.store c.self.invariant)
