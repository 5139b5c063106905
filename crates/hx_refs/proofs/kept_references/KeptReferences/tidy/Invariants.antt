use Rattle.hx_refs.proofs.kept_references.KeptReferences.tidy.Given as goal

abbrev pub ghosts-tidy : goal.ghosts-tidy
ghosts-tidy a = record { name = a.blank.name; parts = a.blank.parts }
