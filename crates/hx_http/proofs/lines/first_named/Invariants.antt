use Rattle.std.proofs.Common.{◌≡◌, take}
use Rattle.hx_http.specs.Spans.{lines_without}
use Rattle.hx_http.proofs.lines.first_named.Given as goal

abbrev pub invariant-loop-i : goal.invariant-loop-i
invariant-loop-i l = lines_without l.bytes l.name (take l.i l.lines) ≡ take l.i l.lines
