use Rattle.std.proofs.Common.{rules, ◌≡◌, List, ℕ, ◌∙◌, ap, sym, subst}
use Rattle.hx_http.specs.Head.{message, IsHead}
use Rattle.hx_http.specs.Parts.{Parts}
use Rattle.hx_http.specs.Spans.{parts_at}
use Rattle.hx_http.proofs.SpanLemmas.{parts_in_prefix}
use Rattle.hx_http.proofs.reading.read_into.Goals as goal

pub returns-clause-found : goal.returns-clause-found
returns-clause-found c =
    let bytes = c.args.bytes.now in
    let spans = c.read_spans.new.spans in
    let same : parts_at c.extend_from_slice.new.self.items spans ≡ parts_at bytes spans
    = ap (λ (text : List ℕ). parts_at text spans) (search rules) ∙ parts_in_prefix bytes spans c.in_ok-read_spans.ensures.spans in
    subst (λ (parts : Parts). IsHead bytes (message parts spans.head.len)) (sym same) c.in_ok-read_spans.ensures.found
