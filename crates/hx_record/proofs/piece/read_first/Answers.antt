use Rattle.std.proofs.Common.{arith, rules}
use Rattle.hx_record.specs.PieceView.{continuation}
use Rattle.hx_record.proofs.PieceLemmas.{line_first}
use Rattle.hx_record.proofs.WaitLemmas.{first_waits}
use Rattle.hx_record.proofs.piece.read_first.Goals as goal

pub returns-clause-ok : goal.returns-clause-ok
returns-clause-ok c =
    rw (← line_first (continuation c.args.tail) c.args.bytes.now c.first_at-len.result c.split_at.result.0.now c.split_at-2.result.1.now c.first_at-len.ensures.value (omega arith) (omega arith) c.split_at.ensures.front (search rules)) c.line_piece.ensures.ok

pub returns-clause-wait : goal.returns-clause-wait
returns-clause-wait c is_open =
    first_waits c.args.bytes.now c.first_at-len.result c.line_piece.result c.first_at-len.ensures.value (omega arith) (omega arith) (rw (← c.split_at.ensures.front) c.line_piece.ensures.wait)

pub returns-clause-err : goal.returns-clause-err
returns-clause-err c =
    rw (← line_first (continuation c.args.tail) c.args.bytes.now c.first_at-len.result c.split_at.result.0.now c.split_at-2.result.1.now c.first_at-len.ensures.value (omega arith) (omega arith) c.split_at.ensures.front (search rules)) c.line_piece.ensures.err
