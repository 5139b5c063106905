use Rattle.std.proofs.Common.{◌≡◌}
use Rattle.std.specs.Io.KnownBytes.{Keeps}
use Rattle.hx_outside.proofs.std_sink.StdSinkSink.write.Given as goal

abbrev pub invariant-tries : goal.invariant-tries
invariant-tries g l = record {
  kept : Keeps (g.W.Write.contents l.fn.self.inner) (g.W.Write.contents l.self-inside.writer);
  uncounted : l.self-inside.faults ≡ l.fn.self.faults;
}
