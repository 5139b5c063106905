use Rattle.std.proofs.Common.{length, ap, ◌∙◌}
use Rattle.hx_http.specs.Edits.{without_header}
use Rattle.hx_http.proofs.LineLemmas.{kept_count}
use Rattle.hx_http.proofs.message.Message.count_others.Goals as goal

pub returns : goal.returns
returns c =
    let name = c.args.name.now in
    (rw (c.as_slice.ensures.value, c.as_slice-2.ensures.value) at c.count_others.ensures)
    ∙ kept_count c.self.inside.bytes.items name c.self.inside.spans.lines.items
    ∙ ap (λ head. length (without_header name head).headers) c.self.view_is
