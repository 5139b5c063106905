use Rattle.std.proofs.Common.{◌≤◌, length}
use Rattle.hx_outside.proofs.PrefixLemmas.{AppendsAllBut}
use Rattle.hx_outside.proofs.sink.write_all.Given as goal

abbrev pub invariant-pieces : goal.invariant-pieces
invariant-pieces g l = record {
  appended : AppendsAllBut (g.K.Sink.written l.fn.out) (g.K.Sink.written l.out) l.bytes l.rest;
  later : g.K.Sink.faults l.fn.out ≤ g.K.Sink.faults l.out;
}

abbrev pub decreases-pieces : goal.decreases-pieces
decreases-pieces g l = length l.rest
