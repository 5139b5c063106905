use Rattle.hx_cases_acls.proofs.conditions.show_condition.Given as goal

-- nothing is counted: the ledger is that of the blank
abbrev pub ghosts-show_asked : goal.ghosts-show_asked
ghosts-show_asked a = record { name = a.blank.name; parts = a.blank.parts }
