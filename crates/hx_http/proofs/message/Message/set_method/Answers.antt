use Rattle.std.proofs.Common.{ap, ◌∙◌}
use Rattle.std.proofs.lemmas.Result.{err_from_is_err_and}
use Rattle.hx_http.specs.Edits.{with_method}
use Rattle.hx_http.proofs.ExtendLemmas.{other_method, parts_extended, AreWithin-extended}
use Rattle.hx_http.proofs.message.Message.set_method.Goals as goal

pub returns-in_err-method-clause-kept : goal.returns-in_err-method-clause-kept
returns-in_err-method-clause-kept c =
    let p = err_from_is_err_and c.from_residual.result c.from_residual.ensures.1 in
    rw p.1
    (parts_extended _ _ c.self.inside.spans c.append.ensures.extends c.self.invariant ∙ c.self.view_is)

pub invariant_of-self-2 : goal.invariant_of-self-2
invariant_of-self-2 c =
    let more = AreWithin-extended _ _ c.self.inside.spans c.append.ensures.extends c.self.invariant in
    record {
      method = c.in_ok-method.ensures.within;
      target = more.target;
      version = more.version;
      lines = more.lines;
    }

pub returns-clause-ok : goal.returns-clause-ok
returns-clause-ok c =
    c.drop_unused.ensures
    ∙ other_method _ _ c.self.inside.spans c.in_ok-method.method c.args.text.now c.append.ensures.extends
    c.self.invariant c.in_ok-method.ensures.text
    ∙ ap (with_method c.args.text.now) c.self.view_is
