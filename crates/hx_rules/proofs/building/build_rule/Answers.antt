use Rattle.std.proofs.Common.{refl}
use Rattle.std.specs.Prelude.{Contains}
use Rattle.std.proofs.lemmas.List.Elements.{Contains-append_left, Contains-append_right}
use Rattle.std.proofs.lemmas.Result.{err_from_is_err_and}
use Rattle.hx_expr.proofs.CountLemmas.{counts_within}
use Rattle.hx_rules.specs.Building.{action_texts, rule_texts, when_texts}
use Rattle.hx_rules.proofs.building.build_rule.Goals as goal

pub returns-in_err-action-clause-large : goal.returns-in_err-action-clause-large
returns-in_err-action-clause-large g c =
    let p = err_from_is_err_and c.from_residual.result c.from_residual.ensures.1 in
    rw (p.1, p.2)
    (counts_within c.in_err-action.field-0.0 (Contains (action_texts c.args.rule.now.action)) (Contains (rule_texts c.args.rule.now)) _ _ _
    (Contains-append_left (action_texts c.args.rule.now.action) (when_texts c.args.rule.now.cond))
    refl refl c.in_err-action.ensures.large)

pub returns-in_err-cond-clause-large : goal.returns-in_err-cond-clause-large
returns-in_err-cond-clause-large g c =
    let p = err_from_is_err_and c.from_residual-in_err-cond.result c.from_residual-in_err-cond.ensures.1 in
    rw (p.1, p.2)
    (counts_within c.in_err-cond.field-0.0 (Contains (when_texts c.args.rule.now.cond)) (Contains (rule_texts c.args.rule.now)) _ _ _
    (Contains-append_right (action_texts c.args.rule.now.action) (when_texts c.args.rule.now.cond))
    c.in_ok-action.ensures.large.0 c.in_ok-action.ensures.large.1 c.in_err-cond.ensures.large)
