use Rattle.std.proofs.Common.{ap, ◌∙◌}
use Rattle.std.proofs.lemmas.Result.{err_from_is_err_and}
use Rattle.hx_http.specs.Edits.{with_target}
use Rattle.hx_http.proofs.ExtendLemmas.{other_target, parts_extended, AreWithin-extended}
use Rattle.hx_http.proofs.message.Message.set_uri.Goals as goal

pub returns-in_err-target-clause-kept : goal.returns-in_err-target-clause-kept
returns-in_err-target-clause-kept c =
    let p = err_from_is_err_and c.from_residual.result c.from_residual.ensures.1 in
    rw p.1
    (parts_extended _ _ c.self.inside.spans c.append.ensures.extends c.self.invariant ∙ c.self.view_is)

pub invariant_of-self-2 : goal.invariant_of-self-2
invariant_of-self-2 c =
    let more = AreWithin-extended _ _ c.self.inside.spans c.append.ensures.extends c.self.invariant in
    record {
      method = more.method;
      target = c.in_ok-target.ensures.within;
      version = more.version;
      lines = more.lines;
    }

pub returns-clause-ok : goal.returns-clause-ok
returns-clause-ok c =
    c.drop_unused.ensures
    ∙ other_target _ _ c.self.inside.spans c.in_ok-target.target c.args.text.now c.append.ensures.extends
    c.self.invariant c.in_ok-target.ensures.text
    ∙ ap (with_target c.args.text.now) c.self.view_is
