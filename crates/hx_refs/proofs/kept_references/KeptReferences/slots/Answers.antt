use Rattle.hx_refs.proofs.kept_references.KeptReferences.slots.Goals as goal

pub returns : goal.returns
returns c = rw (← c.self.view_is) c.slots.ensures
