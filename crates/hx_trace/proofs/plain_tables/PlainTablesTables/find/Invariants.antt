use Rattle.hx_trace.proofs.plain_tables.PlainTablesTables.find.Given as goal

-- the ledger is that of the blank
abbrev pub ghosts-ask : goal.ghosts-ask
ghosts-ask g a = record { name = a.blank.name; parts = a.blank.parts }
