use Rattle.hx_diff.proofs.ReasonLemmas.{without_reason_is}
use Rattle.hx_diff.proofs.detailed_answer.without_reason.Goals as goal

pub returns-in-Req : goal.returns-in-Req
returns-in-Req c = λ world is.
    rw c.in-Req.is (without_reason_is world c.in-Req.id c.in-Req.bytes c.args.shown.now c.without_last_line.result.now
    c.without_last_line.ensures.lines c.without_last_line.ensures.empty (rw c.in-Req.is at is))
