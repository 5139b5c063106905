use Rattle.hx_sample.proofs.vars.Vars.unset.Given as goal

-- nothing is counted: the ledger is that of the blank
abbrev pub ghosts-unset_in : goal.ghosts-unset_in
ghosts-unset_in a = record { name = a.blank.name; parts = a.blank.parts }
