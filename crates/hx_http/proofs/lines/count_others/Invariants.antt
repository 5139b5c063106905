use Rattle.std.proofs.Common.{◌≡◌, ◌≤◌, not, length, take, filter}
use Rattle.httparse.specs.Spans.{header_bytes}
use Rattle.hx_http.specs.Edits.{has_name}
use Rattle.hx_http.proofs.lines.count_others.Given as goal

abbrev pub invariant-loop-line : goal.invariant-loop-line
invariant-loop-line l = record {
  counts : l.count ≡ length (filter
      (λ line. not (has_name l.name (header_bytes l.bytes line))) (take l.line-index l.lines));
  few : l.count ≤ l.line-index;
}
