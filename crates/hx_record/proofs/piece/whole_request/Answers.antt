use Rattle.std.proofs.Common.{rules}
use Rattle.hx_record.proofs.WaitLemmas.{request_first}
use Rattle.hx_record.proofs.piece.whole_request.Goals as goal

pub returns-in-Request-clause-ok : goal.returns-in-Request-clause-ok
returns-in-Request-clause-ok c next =
    rw (← request_first next c.args.bytes.now c.in-Request.id c.in-Request.len c.in-Request.used c.split_at.result.1.now (search rules) c.split_at.ensures.back) (c.ended_request.ensures.ok next)

pub returns-in-Request-clause-err : goal.returns-in-Request-clause-err
returns-in-Request-clause-err c next =
    rw (← request_first next c.args.bytes.now c.in-Request.id c.in-Request.len c.in-Request.used c.split_at.result.1.now (search rules) c.split_at.ensures.back) (c.ended_request.ensures.err next)
