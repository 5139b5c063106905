use Rattle.std.proofs.Common.{◌≡◌, ◌++◌, map, take}
use Rattle.std.specs.List.{flat_map}
use Rattle.httparse.specs.Spans.{header_bytes}
use Rattle.hx_http.specs.Text.{header_line}
use Rattle.hx_http.proofs.writing.append_header_lines.Given as goal

abbrev pub invariant-loop-line : goal.invariant-loop-line
invariant-loop-line l = l.text.items ≡ l.initial.text.items
    ++ flat_map (λ line. l.before ++ header_line line) (map (header_bytes l.bytes) (take l.line-index l.lines))
