use Rattle.std.proofs.Common.{◌∙◌}
use Rattle.hx_fetch.proofs.StepLemmas.{step_ahead}
use Rattle.hx_fetch.proofs.walks.nth_back.Goals as goal

pub loop-ahead-preserved : goal.loop-ahead-preserved
loop-ahead-preserved c =
    let h = c.loop-ahead.invariant in
    let step = step_ahead c.next.result c.next-in-loop-ahead.result _ _ _ _ c.args.after (cc) c.next.ensures.steps c.next-in-loop-ahead.ensures.steps h.distance in
    record { distance = step.0; within = step.1; same = step.2 ∙ h.same }
