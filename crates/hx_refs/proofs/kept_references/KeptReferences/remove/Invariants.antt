use Rattle.hx_refs.proofs.kept_references.KeptReferences.remove.Given as goal

abbrev pub ghosts-delete : goal.ghosts-delete
ghosts-delete a = record { name = a.blank.name; parts = a.blank.parts }
