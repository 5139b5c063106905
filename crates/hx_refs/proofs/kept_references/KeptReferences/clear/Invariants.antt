use Rattle.hx_refs.proofs.kept_references.KeptReferences.clear.Given as goal

abbrev pub ghosts-clear : goal.ghosts-clear
ghosts-clear a = record { name = a.blank.name; parts = a.blank.parts }
