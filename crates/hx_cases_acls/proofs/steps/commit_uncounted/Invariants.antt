use Rattle.hx_cases_acls.proofs.steps.commit_uncounted.Given as goal

-- nothing is counted: the ledger is that of the blank
abbrev pub ghosts-commit_counted : goal.ghosts-commit_counted
ghosts-commit_counted a = record { name = a.blank.name; parts = a.blank.parts }
