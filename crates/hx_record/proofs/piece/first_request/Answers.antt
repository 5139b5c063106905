use Rattle.std.proofs.Common.{arith, rules}
use Rattle.hx_record.proofs.WaitLemmas.{announced_first}
use Rattle.hx_record.proofs.piece.first_request.Goals as goal

pub returns-in-Some-Ok-clause-ok : goal.returns-in-Some-Ok-clause-ok
returns-in-Some-Ok-clause-ok c next =
    rw (← announced_first next c.args.bytes.now c.first_at-len.result c.split_at.result.0.now c.without_cr.result.now c.split_at-2.result.1.now c.in-Some-Ok.id c.in-Some-Ok.request c.first_at-len.ensures.value (omega arith) (omega arith) c.split_at.ensures.front c.without_cr.ensures (search rules) (rw c.in-Some-Ok.field-0-is at c.in-Some-Ok.ensures)) (c.ended_request.ensures.ok next)

pub returns-in-Some-Ok-clause-err : goal.returns-in-Some-Ok-clause-err
returns-in-Some-Ok-clause-err c next =
    rw (← announced_first next c.args.bytes.now c.first_at-len.result c.split_at.result.0.now c.without_cr.result.now c.split_at-2.result.1.now c.in-Some-Ok.id c.in-Some-Ok.request c.first_at-len.ensures.value (omega arith) (omega arith) c.split_at.ensures.front c.without_cr.ensures (search rules) (rw c.in-Some-Ok.field-0-is at c.in-Some-Ok.ensures)) (c.ended_request.ensures.err next)
