use Rattle.std.proofs.Common.{ap, ◌∙◌}
use Rattle.std.proofs.lemmas.List.Elements.{All-push}
use Rattle.std.proofs.lemmas.Result.{err_from_is_err_and}
use Rattle.httparse.specs.Spans.{IsHeaderWithin}
use Rattle.hx_http.specs.Edits.{with_header}
use Rattle.hx_http.proofs.ExtendLemmas.{other_headers, parts_extended, AreWithin-extended}
use Rattle.hx_http.proofs.LineLemmas.{one_more}
use Rattle.hx_http.proofs.message.Message.push_line.Goals as goal

pub returns-in_err-line-clause-err : goal.returns-in_err-line-clause-err
returns-in_err-line-clause-err c =
    let p = err_from_is_err_and c.from_residual.result c.from_residual.ensures.1 in
    rw p.1
    (parts_extended _ _ c.self.inside.spans c.append_line.ensures.extends c.self.invariant ∙ c.self.view_is)

pub invariant_of-self-in_err-push : goal.invariant_of-self-in_err-push
invariant_of-self-in_err-push c =
    let more = AreWithin-extended _ _ c.self.inside.spans c.append_line.ensures.extends c.self.invariant in
    record {
      method = more.method;
      target = more.target;
      version = more.version;
      lines = rw c.in_err-push.ensures.items more.lines;
    }

pub returns-in_err-push-clause-err : goal.returns-in_err-push-clause-err
returns-in_err-push-clause-err c =
    let p = err_from_is_err_and c.from_residual-in_err-push.result c.from_residual-in_err-push.ensures.1 in
    rw (p.1, c.in_err-push.ensures.items)
    (parts_extended _ _ c.self.inside.spans c.append_line.ensures.extends c.self.invariant ∙ c.self.view_is)

pub invariant_of-self-2 : goal.invariant_of-self-2
invariant_of-self-2 c =
    let more = AreWithin-extended _ _ c.self.inside.spans c.append_line.ensures.extends c.self.invariant in
    record {
      method = more.method;
      target = more.target;
      version = more.version;
      lines = rw c.in_ok-push.ensures.items
          (All-push (IsHeaderWithin _) _ _ more.lines c.in_ok-line.ensures.within);
    }

pub returns-clause-ok : goal.returns-clause-ok
returns-clause-ok c =
    c.drop_unused.ensures
    ∙ other_headers _ _ c.self.inside.spans c.push.new.self.items _ c.append_line.ensures.extends c.self.invariant
    (one_more _ _ c.self.inside.spans.lines.items c.push.new.self.items c.in_ok-line.line
    (c.args.name.now, c.args.value.now) c.append_line.ensures.extends c.self.invariant.lines
    c.in_ok-push.ensures.items c.in_ok-line.ensures.text)
    ∙ ap (with_header c.args.name.now c.args.value.now) c.self.view_is
