use Rattle.hx_trace.proofs.RankLemmas.{found_is_highest}
use Rattle.hx_trace.proofs.ranks.highest_rank_is_found.Goals as goal

pub returns : goal.returns
returns c = found_is_highest c.args.by c.args.ci
