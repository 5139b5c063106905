use Rattle.std.specs.Prelude.{◌≡◌, ◌+◌, length}
use Rattle.std.specs.List.{All}
use Rattle.hx_rules.specs.Deciding.{ending_rule}
use Rattle.hx_rules.specs.RequestView.{IsSameRequest, state_of}
use Rattle.hx_rules.specs.State.{table_view}
use Rattle.hx_rules.specs.Tables.{ChangesOneOf, HasRuleHeads}
use Rattle.hx_rules.proofs.RuleLemmas.{Comes}
use Rattle.hx_rules.proofs.request.Request.apply_rules.Given as goal

-- The rules before those that are left come to this state of the same request, and the rule that
-- ends those that are left, counted after them, ends all. The maker is as ever.
abbrev pub invariant-loop-rest : goal.invariant-loop-rest
invariant-loop-rest g l =
    let first = state_of g.T.Tables.state l.fn.self in
    record {
      acls : l.acls ≡ l.program.acls;
      comes : Comes (table_view g.T.Tables.heads g.T.Tables.lists g.T.Tables.after_change) l.fn.self.conn.now l.program first (state_of g.T.Tables.state l.self) l.rest;
      count : l.at + length l.rest ≡ length l.program.rules;
      ending : ending_rule (table_view g.T.Tables.heads g.T.Tables.lists g.T.Tables.after_change) l.fn.self.conn.now l.program.acls l.at l.rest (state_of g.T.Tables.state l.self) ≡ ending_rule (table_view g.T.Tables.heads g.T.Tables.lists g.T.Tables.after_change) l.fn.self.conn.now l.program.acls 0 l.program.rules first;
      same : IsSameRequest g.T.Tables.state g.T.Tables.heads g.T.Tables.lists l.fn.self l.self;
      rest_heads : All (HasRuleHeads (g.T.Tables.heads first.tables)) l.rest;
      rest_lists : All (λ rule. ChangesOneOf (length (g.T.Tables.lists first.tables)) rule.action) l.rest;
      too_large : (g.M.ReMaker.state l.maker).too_large ≡ (g.M.ReMaker.state l.fn.maker).too_large;
      large : (g.M.ReMaker.state l.maker).large ≡ (g.M.ReMaker.state l.fn.maker).large;
    }

abbrev pub decreases-loop-rest : goal.decreases-loop-rest
decreases-loop-rest g l = length l.rest
