use Rattle.std.proofs.Common.{refl, sym, ◌∙◌}
use Rattle.std.proofs.lemmas.Slice.Eq.{slice_eq-Decides}
use Rattle.hx_http.proofs.SameLemmas.{line_decides, same_line_spans, same_parts, span_not_other}
use Rattle.hx_http.proofs.spans.HeadSpans.same.Goals as goal

pub returns : goal.returns
returns c = λ same bytes.
    let spans = c.args.self.now in
    let other = c.args.other.now in
    let lines = (slice_eq-Decides {E = same_line_spans} line_decides c.as_slice.result.now c.as_slice-2.result.now c.eq.result c.eq.ensures).0 same in
    same_parts spans other bytes
    (span_not_other spans.head.method other.head.method _ refl c.if-ne.ensures)
    (span_not_other spans.head.path other.head.path _ refl c.if-ne-2.ensures) c.if-self-other.false
    (sym c.as_slice.ensures.value ∙ lines ∙ c.as_slice-2.ensures.value)
