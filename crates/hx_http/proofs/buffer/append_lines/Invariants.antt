use Rattle.std.proofs.Common.{◌≡◌, length, map, take}
use Rattle.std.specs.List.{All}
use Rattle.httparse.specs.Spans.{header_bytes, IsHeaderWithin}
use Rattle.hx_http.specs.Spans.{Extends}
use Rattle.hx_http.proofs.buffer.append_lines.Given as goal

abbrev pub invariant-loop-line : goal.invariant-loop-line
invariant-loop-line l = record {
  text : map (header_bytes l.bytes.items) l.copied.items
      ≡ map (header_bytes l.other) (take l.line-index l.lines);
  within : All (IsHeaderWithin (length l.bytes.items)) l.copied.items;
  extends : Extends l.initial.bytes.items l.bytes.items;
}
