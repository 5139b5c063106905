use Rattle.std.proofs.Common.{arith}
use Rattle.httparse.specs.Spans.{header_bytes}
use Rattle.hx_http.proofs.LineLemmas.{same_at, empty_line}
use Rattle.hx_http.proofs.lines.same_lines.Goals as goal

pub returns-then-not-same_line : goal.returns-then-not-same_line
returns-then-not-same_line c = (
  λ yes. absurd (cc),
  λ same.
      rw c.if-not-same_line.true at (c.same_line.ensures.1
      (same_at (header_bytes c.args.bytes.now) (header_bytes c.args.other_bytes.now) c.args.lines.now
      c.args.other_lines.now c.in-Some.last empty_line empty_line (omega arith) (omega arith) same)),
)

pub returns-then-not-same_line-2 : goal.returns-then-not-same_line-2
returns-then-not-same_line-2 c = (
  λ yes. absurd (cc),
  λ same.
      rw c.if-not-same_line-2.true at (c.same_line-in-loop-i.ensures.1
      (same_at (header_bytes c.args.bytes.now) (header_bytes c.args.other_bytes.now) c.args.lines.now
      c.args.other_lines.now c.loop-i.i empty_line empty_line (omega arith) (omega arith) same)),
)
