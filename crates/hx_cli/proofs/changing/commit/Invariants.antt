use Rattle.hx_cli.proofs.changing.commit.Given as goal

abbrev pub ghosts-commit_at : goal.ghosts-commit_at
ghosts-commit_at a = record { name = a.blank.name; parts = a.blank.parts }
