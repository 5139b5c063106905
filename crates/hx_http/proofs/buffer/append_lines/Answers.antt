use Rattle.std.proofs.Common.{arith}
use Rattle.std.proofs.lemmas.List.Elements.{All-push}
use Rattle.httparse.specs.Spans.{IsHeaderWithin}
use Rattle.hx_http.proofs.ExtendLemmas.{lines_extended, Extends-trans}
use Rattle.hx_http.proofs.LineLemmas.{copied_more, empty_line}
use Rattle.hx_http.proofs.buffer.append_lines.Goals as goal

pub loop-line-preserved : goal.loop-line-preserved
loop-line-preserved c =
    let old = c.loop-line.invariant in
    let bytes = c.loop-line.bytes.items in
    let copied = c.loop-line.copied.items in
    record {
      text = copied_more bytes c.append_line.new.bytes.items c.args.other.now copied c.push.new.self.items
          c.args.lines.now c.loop-line.line-index empty_line c.in_ok-line.line c.append_line.ensures.extends old.within
          old.text (omega arith) c.in_ok-push.ensures.items
          (rw (c.of.ensures, c.of-in-loop-line.ensures) at c.in_ok-line.ensures.text);
      within = rw c.in_ok-push.ensures.items
          (All-push (IsHeaderWithin _) _ _ (lines_extended bytes _ copied c.append_line.ensures.extends old.within)
          c.in_ok-line.ensures.within);
      extends = Extends-trans _ bytes _ old.extends c.append_line.ensures.extends;
    }
