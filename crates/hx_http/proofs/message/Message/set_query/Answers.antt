use Rattle.std.proofs.Common.{◌≡◌, ◌||◌, nat_lt, true, length, sym, ap, ◌∙◌}
use Rattle.std.specs.Prelude.{is_some}
use Rattle.std.proofs.lemmas.Result.{err_from_is_err_and}
use Rattle.httparse.specs.Spans.{span_bytes}
use Rattle.hx_http.specs.Edits.{target_with_query, with_query}
use Rattle.hx_http.specs.Target.{query_of}
use Rattle.hx_http.proofs.ExtendLemmas.{other_target, parts_extended, AreWithin-extended}
use Rattle.hx_http.proofs.PlaceLemmas.{before_query_fits, by_new_query, by_old_query, with_query_at}
use Rattle.hx_http.proofs.message.Message.set_query.Goals as goal
use Rattle.hx_http.proofs.message.Message.set_query.Goals.{else-not-has_query-via-then-not-has_query+else-is_empty, else-not-has_query-via-else-not-has_query}

pub append_around-requires-clause-before : goal.append_around-requires-clause-before
append_around-requires-clause-before c =
    rw (c.before_query.ensures, c.of-old.ensures, c.as_slice.ensures.value)
    (before_query_fits (span_bytes c.self.inside.bytes.items c.self.inside.spans.head.path))

pub returns-in_err-target-clause-kept : goal.returns-in_err-target-clause-kept
returns-in_err-target-clause-kept c =
    let p = err_from_is_err_and c.from_residual.result c.from_residual.ensures.1 in
    rw p.1
    (parts_extended _ _ c.self.inside.spans c.append_around.ensures.extends c.self.invariant ∙ c.self.view_is)

pub invariant_of-self-2 : goal.invariant_of-self-2
invariant_of-self-2 c =
    let more = AreWithin-extended _ _ c.self.inside.spans c.append_around.ensures.extends c.self.invariant in
    record {
      method = more.method;
      target = c.in_ok-target.ensures.within;
      version = more.version;
      lines = more.lines;
    }

pub returns-clause-ok : goal.returns-clause-ok
returns-clause-ok c =
    let query = c.args.text.now in
    let old = span_bytes c.self.inside.bytes.items c.self.inside.spans.head.path in
    let one : (is_some (query_of old) || nat_lt 0 (length query)) ≡ true
    = elim c.else-not-has_query.branch [
      | else-not-has_query-via-then-not-has_query+else-is_empty w ↦
          by_new_query old query (sym w.is_empty.ensures ∙ w.if-is_empty.false)
      | else-not-has_query-via-else-not-has_query w ↦
          by_old_query old query
          (rw (c.of-old.ensures, c.as_slice.ensures.value) at
          (sym c.has_query.ensures ∙ w.if-not-has_query.false))
    ] in
    let text = rw (c.before_query.ensures, c.of-old.ensures, c.as_slice.ensures.value) at c.in_ok-target.ensures.text in
    c.drop_unused.ensures
    ∙ other_target _ _ c.self.inside.spans c.in_ok-target.target (target_with_query query old) c.append_around.ensures.extends
    c.self.invariant (text ∙ with_query_at old query one) ∙ ap (with_query query) c.self.view_is
