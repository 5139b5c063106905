use Rattle.std.proofs.Common.{not, length}
use Rattle.std.proofs.lemmas.List.Filters.{FiltersInPlace}
use Rattle.std.specs.List.{All}
use Rattle.httparse.specs.Spans.{header_bytes, IsHeaderWithin}
use Rattle.hx_http.specs.Edits.{has_name}
use Rattle.hx_http.proofs.lines.keep_others.Given as goal

abbrev pub invariant-loop-i : goal.invariant-loop-i
invariant-loop-i l = record {
  filters : FiltersInPlace (λ line. not (has_name l.name (header_bytes l.bytes line)))
      l.initial.lines l.lines l.kept l.i;
  within : All (IsHeaderWithin (length l.bytes)) l.lines;
}
