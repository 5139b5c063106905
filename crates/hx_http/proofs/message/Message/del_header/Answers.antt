use Rattle.std.proofs.Common.{not, ap}
use Rattle.std.proofs.lemmas.List.Elements.{All-filter}
use Rattle.httparse.specs.Spans.{header_bytes, IsHeaderWithin}
use Rattle.hx_http.specs.Edits.{has_name, without_header}
use Rattle.hx_http.proofs.LineLemmas.{map-filter}
use Rattle.hx_http.proofs.message.Message.del_header.Goals as goal

pub invariant_of-self : goal.invariant_of-self
invariant_of-self c =
    let old = c.self.invariant in
    record {
      method = old.method;
      target = old.target;
      version = old.version;
      lines = rw c.remove_named.ensures
          (All-filter (λ line. not (has_name c.args.name.now (header_bytes c.as_slice.result.now line)))
          (IsHeaderWithin _) c.self.inside.spans.lines.items old.lines);
    }

pub returns : goal.returns
returns c =
    let bytes = c.self.inside.bytes.items in
    rw (
      c.remove_named.ensures,
      c.as_slice.ensures.value,
      map-filter (header_bytes bytes)
          (λ line. not (has_name c.args.name.now line)) c.self.inside.spans.lines.items,
    )
    (ap (without_header c.args.name.now) c.self.view_is)
