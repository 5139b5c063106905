use Rattle.hx_lint.specs.Report.{topics_told}
use Rattle.hx_lint.proofs.report.push_topics.Goals as goal

pub returns : goal.returns
unfolding topics_told
returns c = c.push_rows.ensures
