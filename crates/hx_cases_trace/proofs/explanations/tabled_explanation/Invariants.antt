use Rattle.hx_cases_trace.proofs.explanations.tabled_explanation.Given as goal

-- nothing is counted: the ledger is that of the blank
abbrev pub ghosts-request_explanation : goal.ghosts-request_explanation
ghosts-request_explanation g a = record { name = a.blank.name; parts = a.blank.parts }

abbrev pub ghosts-request_explanation-2 : goal.ghosts-request_explanation-2
ghosts-request_explanation-2 g a = record { name = a.blank.name; parts = a.blank.parts }
