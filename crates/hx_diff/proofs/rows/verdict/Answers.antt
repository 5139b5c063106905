use Rattle.hx_diff.proofs.VerdictLemmas.{after_lacks}
use Rattle.hx_diff.proofs.rows.verdict.Goals as goal

pub returns-clause-line : goal.returns-clause-line
returns-clause-line c = rw c.after.ensures (after_lacks 10 32 c.before-2.result.now c.before-2.ensures.without)
