use Rattle.std.proofs.Common.{◌≡◌, ◌∙◌, ◌+◌, ◌&&◌, ap, sym, arith, length, is_some}
use Rattle.std.proofs.lemmas.List.Elements.{All-rest}
use Rattle.std.specs.Option.{option_copied}
use Rattle.hx_acl.specs.Holds.{cond_holds}
use Rattle.hx_ast.specs.declared.statement.Rule.{Rule}
use Rattle.hx_rules.specs.Deciding.{first_from}
use Rattle.hx_rules.specs.Formats.{text_in}
use Rattle.hx_rules.specs.RequestView.{state_of}
use Rattle.hx_rules.specs.State.{in_state, table_view}
use Rattle.hx_rules.specs.Tables.{HasRuleHeads}
use Rattle.hx_rules.specs.Verdicts.{is_taken, redirection, redirects_verdict}
use Rattle.hx_rules.proofs.ActionLemmas.{redirects_nowhere}
use Rattle.hx_rules.proofs.DecidingLemmas.{first_passed, IsPassed, passed_by_action, passed_by_condition}
use Rattle.hx_rules.proofs.RuleLemmas.{first_and_others, other_rules}
use Rattle.hx_rules.proofs.request.Request.redirected.Goals as goal
use Rattle.hx_rules.proofs.request.Request.redirected.Goals.{in-Some+in_ok-is_taken+else-branch, in_default-redirect_in}

pub loop-rest-preserved : goal.loop-rest-preserved
loop-rest-preserved g c =
    let i = c.loop-rest.invariant in
    let rule = c.rule-item.result in
    let rest = c.loop-rest.rest.now in
    let list = first_and_others rest rule c.in-len1-up.len_at_least c.rule-item.is in
    let view = table_view g.T.Tables.heads g.T.Tables.lists g.T.Tables.after_change in
    let conn = c.args.self.now.conn.now in
    let state = state_of g.T.Tables.state c.args.self.now in
    let holds = in_state cond_holds view conn state c.args.acls.now in
    let text = text_in view conn state in
    let passed : IsPassed holds text state.message rule =
    elim c.match-redirect_in.branch [
      | in-Some+in_ok-is_taken+else-branch w ↦
          passed_by_condition holds text state.message rule
          (ap (λ (r : Rule). is_taken holds r.unless r.cond) (sym c.rule.view_is)
          ∙ sym w.in_ok-is_taken.ensures ∙ w.if-branch.false)
      | in_default-redirect_in w ↦
          passed_by_action holds text state.message rule
          (ap (λ (r : Rule). redirection text state.message r.action) (sym c.rule.view_is)
          ∙ redirects_nowhere text state.message c.rule.inside.action (sym c.redirect_in.ensures ∙ ap option_copied w.in_default-redirect_in.is))
    ] in
    let size : length rest ≡ length (other_rules rest) + 1 = ap length list ∙ omega arith in
    record {
      count = omega (arith, i.count, size);
      by = sym (first_passed (λ (rule : Rule). is_some (redirection text state.message rule.action) && is_taken holds rule.unless rule.cond) c.loop-rest.at rule (other_rules rest) passed.none)
          ∙ ap (first_from (λ (rule : Rule). is_some (redirection text state.message rule.action) && is_taken holds rule.unless rule.cond) c.loop-rest.at) (sym list)
          ∙ i.by;
      heads = All-rest (HasRuleHeads (g.T.Tables.heads state.tables)) rule (other_rules rest) rest list i.heads;
      verdict = sym (passed.verdict (other_rules rest))
          ∙ ap (redirects_verdict holds text state.message) (sym list)
          ∙ i.verdict;
    }
