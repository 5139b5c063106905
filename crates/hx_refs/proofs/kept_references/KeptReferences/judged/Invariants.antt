use Rattle.hx_refs.proofs.kept_references.KeptReferences.judged.Given as goal

abbrev pub ghosts-filling : goal.ghosts-filling
ghosts-filling g a = record { name = a.blank.name; parts = a.blank.parts }
