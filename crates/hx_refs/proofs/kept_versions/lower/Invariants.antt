use Rattle.hx_refs.proofs.kept_versions.lower.Given as goal

abbrev pub ghosts-lower_numbers : goal.ghosts-lower_numbers
ghosts-lower_numbers a = record { name = a.blank.name; parts = a.blank.parts }
