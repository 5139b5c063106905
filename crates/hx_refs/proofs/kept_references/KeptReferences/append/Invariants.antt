use Rattle.hx_refs.proofs.kept_references.KeptReferences.append.Given as goal

abbrev pub ghosts-append : goal.ghosts-append
ghosts-append a = record { name = a.blank.name; parts = a.blank.parts }
