use Rattle.hx_refs.proofs.VersionLawLemmas.{later_after_commit}
use Rattle.hx_refs.proofs.laws.commit_keeps_later_versions.Goals as goal

pub returns : goal.returns
returns c = later_after_commit
