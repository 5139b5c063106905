use Rattle.hx_record.specs.PieceView.{continuation}
use Rattle.hx_record.proofs.WaitLemmas.{wait_of}
use Rattle.hx_record.proofs.reader.Reader.judge.Goals as goal

pub invariant_of-self-in-Undecided : goal.invariant_of-self-in-Undecided
invariant_of-self-in-Undecided c = record {
  wait = rw (← c.bytes.ensures, ← c.under_limit-tail.ensures.bytes) (wait_of (continuation c.under_limit-tail.result.0) c.under_limit-tail.result.1.now c.in_ok-piece.piece c.in-Undecided.wait c.in-Undecided.is c.in_ok-piece.ensures.wait c.in_ok-piece.ensures.ok);
  within = c.self.invariant.within;
}
