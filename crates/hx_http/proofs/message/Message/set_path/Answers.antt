use Rattle.std.proofs.Common.{◌≡◌, take, drop, ap, ◌∙◌}
use Rattle.std.proofs.lemmas.Result.{err_from_is_err_and}
use Rattle.httparse.specs.Spans.{span_bytes}
use Rattle.hx_http.specs.Edits.{target_with_path, with_path}
use Rattle.hx_http.proofs.ExtendLemmas.{other_target, parts_extended, AreWithin-extended}
use Rattle.hx_http.proofs.PlaceLemmas.{without_mark}
use Rattle.hx_http.proofs.message.Message.set_path.Goals as goal

pub returns-in_err-target-clause-kept : goal.returns-in_err-target-clause-kept
returns-in_err-target-clause-kept c =
    let p = err_from_is_err_and c.from_residual.result c.from_residual.ensures.1 in
    rw p.1
    (parts_extended _ _ c.self.inside.spans c.append_around.ensures.extends c.self.invariant ∙ c.self.view_is)

pub invariant_of-self-2 : goal.invariant_of-self-2
invariant_of-self-2 c =
    let more = AreWithin-extended _ _ c.self.inside.spans c.append_around.ensures.extends c.self.invariant in
    record {
      method = more.method;
      target = c.in_ok-target.ensures.within;
      version = more.version;
      lines = more.lines;
    }

pub returns-clause-ok : goal.returns-clause-ok
returns-clause-ok c =
    let text = c.args.text.now in
    let bytes = c.self.inside.bytes.items in
    let new = c.append_around.new.bytes.items in
    let old = span_bytes bytes c.self.inside.spans.head.path in
    let all = span_bytes new c.in_ok-target.target in
    let place = rw (c.of.ensures, c.as_slice.ensures.value) at (c.in-Some.ensures.path text) in
    let is : all ≡ target_with_path text old =
    without_mark all (take c.in-Some.before old) text (drop c.in-Some.after old) (target_with_path text old)
    c.in_ok-target.ensures.text place in
    c.drop_unused.ensures
    ∙ other_target bytes new c.self.inside.spans c.in_ok-target.target (target_with_path text old)
    c.append_around.ensures.extends c.self.invariant is
    ∙ ap (with_path text) c.self.view_is
