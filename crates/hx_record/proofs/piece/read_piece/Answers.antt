use Rattle.std.proofs.Common.{rules}
use Rattle.hx_record.specs.PieceView.{continuation}
use Rattle.hx_record.proofs.WaitLemmas.{request_first}
use Rattle.hx_record.proofs.piece.read_piece.Goals as goal

pub returns-in-Request-clause-ok : goal.returns-in-Request-clause-ok
returns-in-Request-clause-ok c =
    rw (← request_first (continuation c.args.tail) c.args.bytes.now c.in-Request.id c.in-Request.len c.in-Request.used c.split_at.result.1.now (search rules) c.split_at.ensures.back) c.read_request.ensures.ok

pub returns-in-Request-clause-err : goal.returns-in-Request-clause-err
returns-in-Request-clause-err c =
    rw (← request_first (continuation c.args.tail) c.args.bytes.now c.in-Request.id c.in-Request.len c.in-Request.used c.split_at.result.1.now (search rules) c.split_at.ensures.back) c.read_request.ensures.err
