use Rattle.std.proofs.Common.{not, ap, ◌∙◌}
use Rattle.std.proofs.lemmas.List.Elements.{All-filter, All-push}
use Rattle.std.proofs.lemmas.Result.{err_from_is_err_and}
use Rattle.httparse.specs.Spans.{header_bytes, IsHeaderWithin}
use Rattle.hx_http.specs.Edits.{has_name, with_only_header}
use Rattle.hx_http.proofs.ExtendLemmas.{other_headers, parts_extended, AreWithin-extended}
use Rattle.hx_http.proofs.LineLemmas.{one_in_place, still_fewer}
use Rattle.hx_http.proofs.message.Message.replace_lines.Goals as goal

pub returns-in_err-line-clause-err : goal.returns-in_err-line-clause-err
returns-in_err-line-clause-err c =
    let p = err_from_is_err_and c.from_residual.result c.from_residual.ensures.1 in
    rw p.1
    (parts_extended _ _ c.self.inside.spans c.append_line.ensures.extends c.self.invariant ∙ c.self.view_is)

pub replace_named-requires-clause-within : goal.replace_named-requires-clause-within
replace_named-requires-clause-within c =
    rw c.as_slice.ensures.value
    (AreWithin-extended _ _ c.self.inside.spans c.append_line.ensures.extends c.self.invariant).lines

pub replace_named-requires-clause-some : goal.replace_named-requires-clause-some
replace_named-requires-clause-some c =
    rw c.as_slice.ensures.value
    (still_fewer _ _ c.args.name.now c.self.inside.spans.lines.items c.append_line.ensures.extends
    c.self.invariant.lines (rw (← c.self.view_is) at c.requires))

pub invariant_of-self-2 : goal.invariant_of-self-2
invariant_of-self-2 c =
    let more = AreWithin-extended _ _ c.self.inside.spans c.append_line.ensures.extends c.self.invariant in
    record {
      method = more.method;
      target = more.target;
      version = more.version;
      lines = rw c.replace_named.ensures
          (All-push (IsHeaderWithin _) _ _
          (All-filter (λ line. not (has_name c.args.name.now (header_bytes c.as_slice.result.now line)))
          (IsHeaderWithin _) c.self.inside.spans.lines.items more.lines) c.in_ok-line.ensures.within);
    }

pub returns-clause-ok : goal.returns-clause-ok
returns-clause-ok c =
    let name = c.args.name.now in
    let value = c.args.value.now in
    c.drop_unused.ensures
    ∙ other_headers _ _ c.self.inside.spans c.replace_named.new.lines.items _ c.append_line.ensures.extends
    c.self.invariant
    (one_in_place _ _ name c.self.inside.spans.lines.items c.replace_named.new.lines.items c.in_ok-line.line
    (name, value) c.append_line.ensures.extends c.self.invariant.lines
    (rw c.as_slice.ensures.value at c.replace_named.ensures) c.in_ok-line.ensures.text)
    ∙ ap (with_only_header name value) c.self.view_is
