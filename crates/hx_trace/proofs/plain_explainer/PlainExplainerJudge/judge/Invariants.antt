use Rattle.hx_trace.proofs.plain_explainer.PlainExplainerJudge.judge.Given as goal

-- nothing is counted: the ledger is that of the blank
abbrev pub ghosts-explained_by_scans : goal.ghosts-explained_by_scans
ghosts-explained_by_scans g a = record { name = a.blank.name; parts = a.blank.parts }
