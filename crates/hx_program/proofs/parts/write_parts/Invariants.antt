use Rattle.std.proofs.Common.{◌≤◌, take}
use Rattle.std.specs.Io.KnownBytes.{Appends}
use Rattle.hx_program.specs.Parts.{all_of}
use Rattle.hx_program.proofs.parts.write_parts.Given as goal

abbrev pub invariant-loop-part : goal.invariant-loop-part
invariant-loop-part g l = record {
  appended : Appends (g.K.Sink.written l.fn.out) (g.K.Sink.written l.out) (all_of (take l.part-index l.parts));
  later : g.K.Sink.faults l.fn.out ≤ g.K.Sink.faults l.out;
}
