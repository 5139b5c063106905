use Rattle.hx_refs.proofs.kept_references.KeptReferences.set_values.Given as goal

abbrev pub ghosts-set : goal.ghosts-set
ghosts-set a = record { name = a.blank.name; parts = a.blank.parts }
