use Rattle.hx_cli.proofs.showing.get.Given as goal

abbrev pub ghosts-uses_reply : goal.ghosts-uses_reply
ghosts-uses_reply a = record { name = a.blank.name; parts = a.blank.parts }
