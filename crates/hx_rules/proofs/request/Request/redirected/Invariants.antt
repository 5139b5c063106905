use Rattle.std.specs.Prelude.{◌≡◌, ◌+◌, ◌&&◌, is_some, length}
use Rattle.std.specs.List.{All}
use Rattle.hx_acl.specs.Holds.{cond_holds}
use Rattle.hx_rules.specs.Deciding.{first_from}
use Rattle.hx_rules.specs.Formats.{text_in}
use Rattle.hx_rules.specs.RequestView.{state_of}
use Rattle.hx_rules.specs.State.{in_state, table_view}
use Rattle.hx_rules.specs.Tables.{HasRuleHeads}
use Rattle.hx_rules.specs.Verdicts.{is_taken, redirection, redirects_verdict}
use Rattle.hx_rules.proofs.request.Request.redirected.Given as goal

-- Of the rules that are left: their heads, the verdict of the first redirect that is taken, and
-- which that is, counted after those before them.
abbrev pub invariant-loop-rest : goal.invariant-loop-rest
invariant-loop-rest g l =
    let view = table_view g.T.Tables.heads g.T.Tables.lists g.T.Tables.after_change in
    let state = state_of g.T.Tables.state l.self in
    let holds = in_state cond_holds view l.self.conn.now state l.acls in
    let text = text_in view l.self.conn.now state in
    let verdict = redirects_verdict holds text state.message in
    let first = first_from (λ rule. is_some (redirection text state.message rule.action) && is_taken holds rule.unless rule.cond) in
    record {
      heads : All (HasRuleHeads (g.T.Tables.heads state.tables)) l.rest;
      verdict : verdict l.rest ≡ verdict l.rules;
      count : l.at + length l.rest ≡ length l.rules;
      by : first l.at l.rest ≡ first 0 l.rules;
    }

abbrev pub decreases-loop-rest : goal.decreases-loop-rest
decreases-loop-rest g l = length l.rest
