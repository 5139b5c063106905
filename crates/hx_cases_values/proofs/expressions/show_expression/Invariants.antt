use Rattle.hx_cases_values.proofs.expressions.show_expression.Given as goal

-- nothing is counted: the ledger is that of the blank
abbrev pub ghosts-show_plan : goal.ghosts-show_plan
ghosts-show_plan g a = record { name = a.blank.name; parts = a.blank.parts }
