use Rattle.hx_refs.proofs.kept_references.KeptReferences.info.Given as goal

abbrev pub ghosts-total_count : goal.ghosts-total_count
ghosts-total_count a = record { name = a.blank.name; parts = a.blank.parts }
