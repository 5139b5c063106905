use Rattle.std.proofs.Common.{ap, length, ◌∙◌, ◌<◌}
use Rattle.std.proofs.lemmas.List.{length-map}
use Rattle.std.proofs.lemmas.List.Elements.{All-set}
use Rattle.std.proofs.lemmas.Result.{err_from_is_err_and}
use Rattle.httparse.specs.Spans.{header_bytes, IsHeaderWithin}
use Rattle.hx_http.specs.Edits.{with_value}
use Rattle.hx_http.proofs.ExtendLemmas.{other_headers, parts_extended, AreWithin-extended}
use Rattle.hx_http.proofs.LineLemmas.{other_value, read_within}
use Rattle.hx_http.proofs.message.Message.replace_value.Goals as goal

pub returns-in_err-value-clause-kept : goal.returns-in_err-value-clause-kept
returns-in_err-value-clause-kept c =
    let p = err_from_is_err_and c.from_residual.result c.from_residual.ensures.1 in
    rw p.1
    (parts_extended _ _ c.self.inside.spans c.append.ensures.extends c.self.invariant ∙ c.self.view_is)

pub invariant_of-self-2 : goal.invariant_of-self-2
invariant_of-self-2 c =
    let more = AreWithin-extended _ _ c.self.inside.spans c.append.ensures.extends c.self.invariant in
    let lines = c.self.inside.spans.lines.items in
    let within : c.args.i < length lines
    = rw (length-map lines (header_bytes c.self.inside.bytes.items)) at (rw (← c.self.view_is) at c.requires) in
    record {
      method = more.method;
      target = more.target;
      version = more.version;
      lines = All-set (IsHeaderWithin _) lines c.args.i _
          ((read_within (IsHeaderWithin _) lines c.args.i c.index.result.now within c.index.ensures more.lines).0, c.in_ok-value.ensures.within) more.lines;
    }

pub returns-clause-ok : goal.returns-clause-ok
returns-clause-ok c =
    let lines = c.self.inside.spans.lines.items in
    let within : c.args.i < length lines
    = rw (length-map lines (header_bytes c.self.inside.bytes.items)) at (rw (← c.self.view_is) at c.requires) in
    c.drop_unused.ensures
    ∙ other_headers _ _ c.self.inside.spans _ _ c.append.ensures.extends c.self.invariant
    (other_value _ _ lines c.args.i c.index.result.now c.in_ok-value.value c.args.value.now
    c.append.ensures.extends c.self.invariant.lines within c.index.ensures c.in_ok-value.ensures.text)
    ∙ ap (with_value c.args.i c.args.value.now) c.self.view_is
