use Rattle.std.specs.Prelude.{◌≡◌, ◌+◌, length}
use Rattle.std.specs.List.{All}
use Rattle.hx_acl.specs.Holds.{cond_holds}
use Rattle.hx_rules.specs.Deciding.{first_from}
use Rattle.hx_rules.specs.Formats.{text_in}
use Rattle.hx_rules.specs.RequestView.{state_of}
use Rattle.hx_rules.specs.State.{in_state, table_view}
use Rattle.hx_rules.specs.Tables.{HasBackendHeads}
use Rattle.hx_rules.specs.Verdicts.{backend_of, is_taken}
use Rattle.hx_rules.proofs.request.Request.backend.Given as goal

-- Of the rules that are left: their heads, the backend that they give, and which of them does,
-- counted after those before them.
abbrev pub invariant-loop-rest : goal.invariant-loop-rest
invariant-loop-rest g l =
    let view = table_view g.T.Tables.heads g.T.Tables.lists g.T.Tables.after_change in
    let state = state_of g.T.Tables.state l.self in
    let holds = in_state cond_holds view l.self.conn.now state l.acls in
    let backend = backend_of holds (text_in view l.self.conn.now state) in
    record {
      heads : All (HasBackendHeads (g.T.Tables.heads state.tables)) l.rest;
      backend : backend l.rest l.fallback ≡ backend l.rules l.fallback;
      count : l.at + length l.rest ≡ length l.rules;
      by : first_from (λ rule. is_taken holds rule.unless rule.cond) l.at l.rest ≡ first_from (λ rule. is_taken holds rule.unless rule.cond) 0 l.rules;
    }

abbrev pub decreases-loop-rest : goal.decreases-loop-rest
decreases-loop-rest g l = length l.rest
