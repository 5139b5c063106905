use Rattle.hx_refs.proofs.kept_references.KeptReferences.has_chosen.Given as goal

abbrev pub ghosts-has_chosen : goal.ghosts-has_chosen
ghosts-has_chosen a = record { name = a.blank.name; parts = a.blank.parts }
