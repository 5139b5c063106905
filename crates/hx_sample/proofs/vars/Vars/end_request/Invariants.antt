use Rattle.hx_sample.proofs.vars.Vars.end_request.Given as goal

-- nothing is counted: the ledger is that of the blank
abbrev pub ghosts-clear : goal.ghosts-clear
ghosts-clear a = record { name = a.blank.name; parts = a.blank.parts }
