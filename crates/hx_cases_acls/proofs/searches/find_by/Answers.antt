use Rattle.hx_cases_acls.proofs.TakingLemmas.{head_takes}
use Rattle.hx_cases_acls.proofs.searches.find_by.Goals as goal

pub find-requires-clause-kind : goal.find-requires-clause-kind
find-requires-clause-kind c =
    head_takes c.args.refs.now.content.heads c.args.head c.args.by _ c.requires c.in_ok-sample.ensures
