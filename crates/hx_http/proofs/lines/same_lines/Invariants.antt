use Rattle.std.proofs.Common.{◌≡◌, map, take}
use Rattle.httparse.specs.Spans.{header_bytes}
use Rattle.hx_http.proofs.lines.same_lines.Given as goal

abbrev pub invariant-loop-i : goal.invariant-loop-i
invariant-loop-i l =
    map (header_bytes l.bytes) (take l.i l.lines)
    ≡ map (header_bytes l.other_bytes) (take l.i l.other_lines)
