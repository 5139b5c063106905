use Rattle.hx_sample.proofs.vars.Vars.get.Given as goal

-- nothing is counted: the ledger is that of the blank
abbrev pub ghosts-value_in : goal.ghosts-value_in
ghosts-value_in a = record { name = a.blank.name; parts = a.blank.parts }
