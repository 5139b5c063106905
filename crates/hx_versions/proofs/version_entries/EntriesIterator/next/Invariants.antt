use Rattle.hx_versions.proofs.version_entries.EntriesIterator.next.Given as goal

abbrev pub ghosts-entry_in : goal.ghosts-entry_in
ghosts-entry_in a = record { name = a.blank.name; parts = a.blank.parts }
