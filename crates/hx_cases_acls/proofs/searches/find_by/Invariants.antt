use Rattle.hx_cases_acls.proofs.searches.find_by.Given as goal

-- nothing is counted: the ledger is that of the blank
abbrev pub ghosts-find : goal.ghosts-find
ghosts-find a = record { name = a.blank.name; parts = a.blank.parts }
