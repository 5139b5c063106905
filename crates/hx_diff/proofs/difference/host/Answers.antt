use Rattle.std.proofs.Common.{sym, ◌∙◌}
use Rattle.hx_diff.proofs.DifferenceLemmas.{host_found, host_kept}
use Rattle.hx_diff.proofs.difference.host.Goals as goal

pub returns-in-Some : goal.returns-in-Some
returns-in-Some c =
    sym (host_found c.args.head.now.headers c.loop-at.at c.in-Some.value.now c.in-Some.ensures) ∙ c.loop-at.invariant

pub loop-at-preserved : goal.loop-at-preserved
loop-at-preserved c =
    host_kept c.args.head.now.headers c.loop-at.at (sym (rw c.in-None.is at c.host_at.ensures)) ∙ c.loop-at.invariant
