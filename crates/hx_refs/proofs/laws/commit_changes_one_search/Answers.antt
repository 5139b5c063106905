use Rattle.hx_refs.proofs.VersionLawLemmas.{list_after_commit, lists_after_commit}
use Rattle.hx_refs.proofs.laws.commit_changes_one_search.Goals as goal

pub returns-clause-list : goal.returns-clause-list
returns-clause-list c = list_after_commit

pub returns-clause-others : goal.returns-clause-others
returns-clause-others c = lists_after_commit
