use Rattle.hx_refs.proofs.VersionLawLemmas.{lists_after_deletion}
use Rattle.hx_refs.proofs.laws.deletion_from_another_version_changes_no_search.Goals as goal

pub returns-clause-lists : goal.returns-clause-lists
returns-clause-lists c = lists_after_deletion
