use Rattle.std.proofs.Common.{None, Some, List, ◌≡◌, ◌∙◌, ◌+◌, ◌∷◌, length, ap, refl, sym, arith}
use Rattle.std.proofs.lemmas.List.Elements.{All-head, All-rest, All-same}
use Rattle.std.proofs.lemmas.Result.{err_from_is_err_and}
use Rattle.hx_acl.specs.Holds.{HasAclsHeads}
use Rattle.hx_ast.specs.declared.statement.Rule.{Rule}
use Rattle.hx_rules.specs.declared.actions.Continuation.TheVariants as continuation
use Rattle.hx_rules.specs.Deciding.{ending_rule}
use Rattle.hx_rules.specs.RequestView.{state_of}
use Rattle.hx_rules.specs.State.{table_view}
use Rattle.hx_rules.specs.Tables.{ChangesOneOf, HasRuleHeads}
use Rattle.hx_rules.proofs.DecidingLemmas.{decided_by, ending_there, none_ending}
use Rattle.hx_rules.proofs.RequestLemmas.{same_later}
use Rattle.hx_rules.proofs.RuleLemmas.{comes_first, comes_further, comes_to, evaluated, evaluated_ended, evaluated_stopped, first_and_others, no_rules_left, other_rules, rule_does, rules_count, same_both, stands_ended, stands_in, stands_stopped}
use Rattle.hx_rules.proofs.request.Request.apply_rules.Goals as goal

-- ---- before the first rule

pub loop-rest-init : goal.loop-rest-init
loop-rest-init g c =
    let first = state_of g.T.Tables.state c.args.self.now in
    let all : c.as_slice-rest.result.now ≡ c.args.program.now.rules = c.as_slice-rest.ensures ∙ ap (λ p. p.rules) c.program.view_is in
    let size : length c.as_slice-rest.result.now ≡ length c.args.program.now.rules = ap length all in
    record {
      acls = ap (λ p. p.acls) c.program.view_is;
      count = omega (arith, size);
      ending = ap (λ (rules : List Rule). ending_rule (table_view g.T.Tables.heads g.T.Tables.lists g.T.Tables.after_change) c.args.self.now.conn.now c.args.program.now.acls 0 rules first) all;
      comes = comes_first (table_view g.T.Tables.heads g.T.Tables.lists g.T.Tables.after_change) c.args.self.now.conn.now c.args.program.now first c.as_slice-rest.result.now all;
      same = record { conn = refl; message = refl; vars = refl; tables = refl; table_heads = refl; table_lists = refl };
      rest_heads = All-same (HasRuleHeads (g.T.Tables.heads first.tables)) c.as_slice-rest.result.now c.args.program.now.rules all c.requires.heads.rules;
      rest_lists = All-same (λ (rule : Rule). ChangesOneOf (length (g.T.Tables.lists first.tables)) rule.action) c.as_slice-rest.result.now c.args.program.now.rules all c.requires.lists;
      too_large = refl;
      large = refl;
    }

-- ---- what a rule needs

pub apply_rule-requires-clause-acls : goal.apply_rule-requires-clause-acls
apply_rule-requires-clause-acls g c =
    let i = c.loop-rest.invariant in
    same_both HasAclsHeads _ _ c.args.program.now.acls c.program.inside.acls i.same.table_heads i.acls c.requires.heads.acls

pub apply_rule-requires-clause-heads : goal.apply_rule-requires-clause-heads
apply_rule-requires-clause-heads g c =
    let i = c.loop-rest.invariant in
    let list = first_and_others c.loop-rest.rest.now c.rule-item.result c.in-len1-up.len_at_least c.rule-item.is in
    let heads = g.T.Tables.heads (g.T.Tables.state c.args.self.now.tables.now) in
    let all = All-same (HasRuleHeads heads) (c.rule-item.result ∷ other_rules c.loop-rest.rest.now) c.loop-rest.rest.now (sym list) i.rest_heads in
    same_both HasRuleHeads heads _ c.rule-item.result c.rule-item.result i.same.table_heads refl
    (All-head (HasRuleHeads heads) c.rule-item.result (other_rules c.loop-rest.rest.now) all)

pub apply_rule-requires-clause-list : goal.apply_rule-requires-clause-list
apply_rule-requires-clause-list g c =
    let i = c.loop-rest.invariant in
    let list = first_and_others c.loop-rest.rest.now c.rule-item.result c.in-len1-up.len_at_least c.rule-item.is in
    let count = length (g.T.Tables.lists (g.T.Tables.state c.args.self.now.tables.now)) in
    let all = All-same (λ (rule : Rule). ChangesOneOf count rule.action) (c.rule-item.result ∷ other_rules c.loop-rest.rest.now) c.loop-rest.rest.now (sym list) i.rest_lists in
    same_both ChangesOneOf count _ c.rule-item.result.action c.rule-item.result.action i.same.table_lists refl
    (All-head (λ (rule : Rule). ChangesOneOf count rule.action) c.rule-item.result (other_rules c.loop-rest.rest.now) all)

-- ---- a rule fails

pub returns-in_err-apply_rule-clause-stands : goal.returns-in_err-apply_rule-clause-stands
returns-in_err-apply_rule-clause-stands g c =
    stands_in (state_of g.T.Tables.state c.apply_rule.new.self) c.loop-rest.invariant.comes c.in_err-apply_rule.ensures.kept

pub returns-in_err-apply_rule-clause-large : goal.returns-in_err-apply_rule-clause-large
returns-in_err-apply_rule-clause-large g c =
    let p = err_from_is_err_and c.from_residual.result c.from_residual.ensures.1 in
    let i = c.loop-rest.invariant in
    let list = first_and_others c.loop-rest.rest.now c.rule-item.result c.in-len1-up.len_at_least c.rule-item.is in
    let at = comes_to c.rule-item.result (other_rules c.loop-rest.rest.now) i.comes list in
    rw (p.1, p.2) (rules_count c.program.inside.acls _ _ _ _ at i.same.conn i.acls i.too_large i.large c.in_err-apply_rule.ensures.large)

pub returns-in_err-apply_rule-clause-same : goal.returns-in_err-apply_rule-clause-same
returns-in_err-apply_rule-clause-same g c =
    same_later c.args.self.now c.loop-rest.self c.apply_rule.new.self c.loop-rest.invariant.same c.in_err-apply_rule.ensures.same

-- ---- a rule stops the rules

pub returns-in-Stops-clause-ok : goal.returns-in-Stops-clause-ok
returns-in-Stops-clause-ok g c =
    let i = c.loop-rest.invariant in
    let list = first_and_others c.loop-rest.rest.now c.rule-item.result c.in-len1-up.len_at_least c.rule-item.is in
    let at = comes_to c.rule-item.result (other_rules c.loop-rest.rest.now) i.comes list in
    let next = state_of g.T.Tables.state c.apply_rule.new.self in
    let does = rule_does (table_view g.T.Tables.heads g.T.Tables.lists g.T.Tables.after_change) c.rule-item.result (state_of g.T.Tables.state c.loop-rest.self) i.same.conn i.acls c.in_ok-apply_rule.ensures.ok in
    evaluated_stopped next _ at c.in-Stops.is does

pub returns-in-Stops-clause-by : goal.returns-in-Stops-clause-by
returns-in-Stops-clause-by g c =
    let i = c.loop-rest.invariant in
    let view = (table_view g.T.Tables.heads g.T.Tables.lists g.T.Tables.after_change) in
    let list = first_and_others c.loop-rest.rest.now c.rule-item.result c.in-len1-up.len_at_least c.rule-item.is in
    let at = comes_to c.rule-item.result (other_rules c.loop-rest.rest.now) i.comes list in
    let next = state_of g.T.Tables.state c.apply_rule.new.self in
    let does = rule_does view c.rule-item.result (state_of g.T.Tables.state c.loop-rest.self) i.same.conn i.acls c.in_ok-apply_rule.ensures.ok in
    let there = ending_there view c.args.self.now.conn.now c.args.program.now.acls c.loop-rest.at c.rule-item.result (other_rules c.loop-rest.rest.now) c.loop-rest.rest.now (state_of g.T.Tables.state c.loop-rest.self) next _ continuation.Stops list c.in-Stops.is does in
    decided_by view c.args.self.now.conn.now c.args.program.now (state_of g.T.Tables.state c.args.self.now) next None None (there ∙ i.ending)
    (evaluated_stopped next _ at c.in-Stops.is does)

pub returns-in-Stops-clause-stands : goal.returns-in-Stops-clause-stands
returns-in-Stops-clause-stands g c =
    let i = c.loop-rest.invariant in
    let list = first_and_others c.loop-rest.rest.now c.rule-item.result c.in-len1-up.len_at_least c.rule-item.is in
    let at = comes_to c.rule-item.result (other_rules c.loop-rest.rest.now) i.comes list in
    let next = state_of g.T.Tables.state c.apply_rule.new.self in
    let does = rule_does (table_view g.T.Tables.heads g.T.Tables.lists g.T.Tables.after_change) c.rule-item.result (state_of g.T.Tables.state c.loop-rest.self) i.same.conn i.acls c.in_ok-apply_rule.ensures.ok in
    stands_stopped next _ at c.in-Stops.is does

pub returns-in-Stops-clause-same : goal.returns-in-Stops-clause-same
returns-in-Stops-clause-same g c =
    same_later c.args.self.now c.loop-rest.self c.apply_rule.new.self c.loop-rest.invariant.same c.in_ok-apply_rule.ensures.same

pub returns-in-Stops-clause-large : goal.returns-in-Stops-clause-large
returns-in-Stops-clause-large g c =
    let i = c.loop-rest.invariant in
    (c.in_ok-apply_rule.ensures.large.0 ∙ i.too_large, c.in_ok-apply_rule.ensures.large.1 ∙ i.large)

-- ---- a rule gives the verdict

pub returns-in-Ends-clause-ok : goal.returns-in-Ends-clause-ok
returns-in-Ends-clause-ok g c =
    let i = c.loop-rest.invariant in
    let list = first_and_others c.loop-rest.rest.now c.rule-item.result c.in-len1-up.len_at_least c.rule-item.is in
    let at = comes_to c.rule-item.result (other_rules c.loop-rest.rest.now) i.comes list in
    let next = state_of g.T.Tables.state c.apply_rule.new.self in
    let does = rule_does (table_view g.T.Tables.heads g.T.Tables.lists g.T.Tables.after_change) c.rule-item.result (state_of g.T.Tables.state c.loop-rest.self) i.same.conn i.acls c.in_ok-apply_rule.ensures.ok in
    evaluated_ended next _ c.in-Ends.verdict at c.in-Ends.is does

pub returns-in-Ends-clause-by : goal.returns-in-Ends-clause-by
returns-in-Ends-clause-by g c =
    let i = c.loop-rest.invariant in
    let view = (table_view g.T.Tables.heads g.T.Tables.lists g.T.Tables.after_change) in
    let list = first_and_others c.loop-rest.rest.now c.rule-item.result c.in-len1-up.len_at_least c.rule-item.is in
    let at = comes_to c.rule-item.result (other_rules c.loop-rest.rest.now) i.comes list in
    let next = state_of g.T.Tables.state c.apply_rule.new.self in
    let does = rule_does view c.rule-item.result (state_of g.T.Tables.state c.loop-rest.self) i.same.conn i.acls c.in_ok-apply_rule.ensures.ok in
    let there = ending_there view c.args.self.now.conn.now c.args.program.now.acls c.loop-rest.at c.rule-item.result (other_rules c.loop-rest.rest.now) c.loop-rest.rest.now (state_of g.T.Tables.state c.loop-rest.self) next _ (continuation.Ends c.in-Ends.verdict) list c.in-Ends.is does in
    decided_by view c.args.self.now.conn.now c.args.program.now (state_of g.T.Tables.state c.args.self.now) next (Some c.in-Ends.verdict) (Some c.loop-rest.at) (there ∙ i.ending)
    (evaluated_ended next _ c.in-Ends.verdict at c.in-Ends.is does)

pub returns-in-Ends-clause-stands : goal.returns-in-Ends-clause-stands
returns-in-Ends-clause-stands g c =
    let i = c.loop-rest.invariant in
    let list = first_and_others c.loop-rest.rest.now c.rule-item.result c.in-len1-up.len_at_least c.rule-item.is in
    let at = comes_to c.rule-item.result (other_rules c.loop-rest.rest.now) i.comes list in
    let next = state_of g.T.Tables.state c.apply_rule.new.self in
    let does = rule_does (table_view g.T.Tables.heads g.T.Tables.lists g.T.Tables.after_change) c.rule-item.result (state_of g.T.Tables.state c.loop-rest.self) i.same.conn i.acls c.in_ok-apply_rule.ensures.ok in
    stands_ended next _ c.in-Ends.verdict at c.in-Ends.is does

pub returns-in-Ends-clause-same : goal.returns-in-Ends-clause-same
returns-in-Ends-clause-same g c =
    same_later c.args.self.now c.loop-rest.self c.apply_rule.new.self c.loop-rest.invariant.same c.in_ok-apply_rule.ensures.same

pub returns-in-Ends-clause-large : goal.returns-in-Ends-clause-large
returns-in-Ends-clause-large g c =
    let i = c.loop-rest.invariant in
    (c.in_ok-apply_rule.ensures.large.0 ∙ i.too_large, c.in_ok-apply_rule.ensures.large.1 ∙ i.large)

-- ---- the next rule

pub loop-rest-smaller : goal.loop-rest-smaller
loop-rest-smaller g c =
    let list = first_and_others c.loop-rest.rest.now c.rule-item.result c.in-len1-up.len_at_least c.rule-item.is in
    let size : length c.loop-rest.rest.now ≡ length (other_rules c.loop-rest.rest.now) + 1 = ap length list ∙ omega arith in
    omega (arith, size)

pub loop-rest-preserved : goal.loop-rest-preserved
loop-rest-preserved g c =
    let i = c.loop-rest.invariant in
    let list = first_and_others c.loop-rest.rest.now c.rule-item.result c.in-len1-up.len_at_least c.rule-item.is in
    let at = comes_to c.rule-item.result (other_rules c.loop-rest.rest.now) i.comes list in
    let next = state_of g.T.Tables.state c.apply_rule.new.self in
    let does = rule_does (table_view g.T.Tables.heads g.T.Tables.lists g.T.Tables.after_change) c.rule-item.result (state_of g.T.Tables.state c.loop-rest.self) i.same.conn i.acls c.in_ok-apply_rule.ensures.ok in
    let first = state_of g.T.Tables.state c.args.self.now in
    let size : length c.loop-rest.rest.now ≡ length (other_rules c.loop-rest.rest.now) + 1 = ap length list ∙ omega arith in
    let there = ending_there (table_view g.T.Tables.heads g.T.Tables.lists g.T.Tables.after_change) c.args.self.now.conn.now c.args.program.now.acls c.loop-rest.at c.rule-item.result (other_rules c.loop-rest.rest.now) c.loop-rest.rest.now (state_of g.T.Tables.state c.loop-rest.self) next _ continuation.Goes list c.in-Goes.is does in
    record {
      acls = i.acls;
      count = omega (arith, i.count, size);
      ending = there ∙ i.ending;
      comes = comes_further next _ at c.in-Goes.is does;
      same = same_later c.args.self.now c.loop-rest.self c.apply_rule.new.self i.same c.in_ok-apply_rule.ensures.same;
      rest_heads = All-rest (HasRuleHeads (g.T.Tables.heads first.tables)) c.rule-item.result (other_rules c.loop-rest.rest.now) c.loop-rest.rest.now list i.rest_heads;
      rest_lists = All-rest (λ (rule : Rule). ChangesOneOf (length (g.T.Tables.lists first.tables)) rule.action) c.rule-item.result (other_rules c.loop-rest.rest.now) c.loop-rest.rest.now list i.rest_lists;
      too_large = c.in_ok-apply_rule.ensures.large.0 ∙ i.too_large;
      large = c.in_ok-apply_rule.ensures.large.1 ∙ i.large;
    }

-- ---- all rules were judged

pub returns-clause-ok : goal.returns-clause-ok
returns-clause-ok g c =
    evaluated c.loop-rest.invariant.comes (no_rules_left c.loop-rest.rest.now c.in_default.len_below)

pub returns-clause-by : goal.returns-clause-by
returns-clause-by g c =
    let i = c.loop-rest.invariant in
    let view = (table_view g.T.Tables.heads g.T.Tables.lists g.T.Tables.after_change) in
    let next = state_of g.T.Tables.state c.loop-rest.self in
    let none = no_rules_left c.loop-rest.rest.now c.in_default.len_below in
    decided_by view c.args.self.now.conn.now c.args.program.now (state_of g.T.Tables.state c.args.self.now) next None None
    (none_ending view c.args.self.now.conn.now c.args.program.now.acls c.loop-rest.at c.loop-rest.rest.now next none ∙ i.ending)
    (evaluated i.comes none)

pub returns-clause-stands : goal.returns-clause-stands
returns-clause-stands g c =
    stands_in (state_of g.T.Tables.state c.loop-rest.self) c.loop-rest.invariant.comes refl

pub returns-clause-same : goal.returns-clause-same
returns-clause-same g c =
    c.loop-rest.invariant.same

pub returns-clause-large : goal.returns-clause-large
returns-clause-large g c =
    (c.loop-rest.invariant.too_large, c.loop-rest.invariant.large)
