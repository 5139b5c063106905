use Rattle.std.proofs.Common.{arith}
use Rattle.hx_http.proofs.LineLemmas.{empty_line}
use Rattle.hx_http.proofs.WritingLemmas.{one_line_more}
use Rattle.hx_http.proofs.writing.append_header_lines.Goals as goal

pub loop-line-preserved : goal.loop-line-preserved
loop-line-preserved c =
    one_line_more c.args.text.now.items c.loop-line.text.items _ c.args.before.now c.args.bytes.now c.args.lines.now c.loop-line.line-index empty_line
    (omega arith) c.loop-line.invariant (rw c.in_ok-extend_from_slice.ensures.items at c.in_ok-append_header_line.ensures)
