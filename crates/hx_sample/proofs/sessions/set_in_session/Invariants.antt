use Rattle.hx_sample.proofs.sessions.set_in_session.Given as goal

-- nothing is counted: the ledger is that of the blank
abbrev pub ghosts-set_in : goal.ghosts-set_in
ghosts-set_in a = record { name = a.blank.name; parts = a.blank.parts }
