use Rattle.hx_refs.proofs.VersionLawLemmas.{no_entries, unused_number}
use Rattle.hx_refs.proofs.laws.preparation_gives_an_unused_number.Goals as goal

pub returns-clause-unused : goal.returns-clause-unused
returns-clause-unused c = unused_number

pub returns-clause-empty : goal.returns-clause-empty
returns-clause-empty c = no_entries
