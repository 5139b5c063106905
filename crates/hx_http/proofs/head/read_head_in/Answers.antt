use Rattle.std.proofs.Common.{◌≡◌, Err, ap, sym, ◌∙◌}
use Rattle.std.proofs.lemmas.Result.{err_from_is_err_and}
use Rattle.hx_http.specs.declared.fault.HeadFault.TheVariants.{NotAHead, TooManyHeaders}
use Rattle.hx_http.specs.Head.{message, many, none, head_of}
use Rattle.hx_http.specs.Spans.{parts_at}
use Rattle.hx_http.proofs.HeadLemmas.{only_head_is}
use Rattle.hx_http.proofs.head.read_head_in.Goals as goal

pub returns-in_err-read_spans-clause-not_a_head : goal.returns-in_err-read_spans-clause-not_a_head
returns-in_err-read_spans-clause-not_a_head c is =
    let p = err_from_is_err_and c.from_residual.result c.from_residual.ensures.1 in
    let same : c.in_err-read_spans.field-0.0 ≡ NotAHead = cc (p.1, p.2, is) in
    ap head_of (sym c.as_slice.ensures)
    ∙ only_head_is c.as_slice.result.now none (c.in_err-read_spans.ensures.not_a_head (ap Err same))

pub returns-in_err-read_spans-clause-too_many : goal.returns-in_err-read_spans-clause-too_many
returns-in_err-read_spans-clause-too_many c is =
    let p = err_from_is_err_and c.from_residual.result c.from_residual.ensures.1 in
    let same : c.in_err-read_spans.field-0.0 ≡ TooManyHeaders = cc (p.1, p.2, is) in
    ap head_of (sym c.as_slice.ensures)
    ∙ only_head_is c.as_slice.result.now many (c.in_err-read_spans.ensures.too_many (ap Err same))

pub returns-clause-found : goal.returns-clause-found
returns-clause-found c =
    let bytes = c.as_slice.result.now in
    let spans = c.read_spans.new.spans in
    ap head_of (sym c.as_slice.ensures)
    ∙ only_head_is bytes (message (parts_at bytes spans) spans.head.len) c.in_ok-read_spans.ensures.found
    ∙ ap (λ parts. message parts spans.head.len)
    (sym (c.new.ensures ∙ ap (λ text. parts_at text spans) (sym c.as_slice.ensures)))
