use Rattle.hx_refs.proofs.VersionLawLemmas.{lists_after_change_of_value}
use Rattle.hx_refs.proofs.laws.change_of_a_value_in_another_version_changes_no_search.Goals as goal

pub returns-clause-lists : goal.returns-clause-lists
returns-clause-lists c = lists_after_change_of_value
