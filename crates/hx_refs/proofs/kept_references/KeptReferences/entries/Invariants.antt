use Rattle.hx_refs.proofs.kept_references.KeptReferences.entries.Given as goal

abbrev pub ghosts-entries : goal.ghosts-entries
ghosts-entries a = record { name = a.blank.name; parts = a.blank.parts }
