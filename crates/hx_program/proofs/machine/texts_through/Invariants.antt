use Rattle.std.proofs.Common.{◌≡◌, ◌++◌, drop, length}
use Rattle.std.specs.Prelude.{IfSome}
use Rattle.hx_program.specs.Machine.{texts_of}
use Rattle.hx_program.proofs.machine.texts_through.Given as goal

abbrev pub invariant-loop-index : goal.invariant-loop-index
invariant-loop-index g l = record {
  read : IfSome (g.T.IndexedTexts.texts l.texts) (λ all. texts_of l.read.items ++ drop l.index all ≡ drop l.first all);
  room : length l.buffer ≡ length l.fn.buffer;
}
