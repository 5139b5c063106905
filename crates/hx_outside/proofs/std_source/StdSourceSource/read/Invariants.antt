use Rattle.std.proofs.Common.{◌≡◌, length}
use Rattle.std.specs.Io.KnownBytes.{Keeps}
use Rattle.hx_outside.proofs.std_source.StdSourceSource.read.Given as goal

abbrev pub invariant-tries : goal.invariant-tries
invariant-tries g l = record {
  kept : Keeps (g.R.Read.remaining l.fn.self.inner) (g.R.Read.remaining l.self-inside.reader);
  room : length l.buf ≡ length l.fn.buf;
  uncounted : l.self-inside.faults ≡ l.fn.self.faults;
}
