use Rattle.hx_refs.proofs.VersionLawLemmas.{lists_after_preparation}
use Rattle.hx_refs.proofs.laws.preparation_changes_no_search.Goals as goal

pub returns-clause-lists : goal.returns-clause-lists
returns-clause-lists c = lists_after_preparation
