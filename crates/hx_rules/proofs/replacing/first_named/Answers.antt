use Rattle.std.proofs.Common.{◌≡◌, ℕ, true, false, List, rules, sym, ◌∙◌, arith}
use Rattle.hx_http.specs.Edits.{has_name}
use Rattle.hx_rules.proofs.ReplacingLemmas.{all_replaced, any_here, any_passed, other_line}
use Rattle.hx_rules.proofs.replacing.first_named.Goals as goal

pub returns-then-eq_ignore_ascii_case-clause-named :
    goal.returns-then-eq_ignore_ascii_case-clause-named
returns-then-eq_ignore_ascii_case-clause-named c =
    let found = c.in-Some.ensures.line in
    let test = c.if-eq_ignore_ascii_case.ensures.test in
    let line : List ℕ × List ℕ = (c.in-Some.line_name.now, c.in-Some._value.now) in
    let named : has_name c.args.name.now line ≡ true = search rules in
    sym (any_here (has_name c.args.name.now) c.args.message.now.headers c.lines.at line (search rules) named)
    ∙ c.lines.invariant.named

pub lines-preserved : goal.lines-preserved
lines-preserved c =
    let name = c.args.name.now in
    let head = c.args.message.now in
    let found = c.in-Some.ensures.line in
    let test = c.if-eq_ignore_ascii_case.ensures.test in
    let line : List ℕ × List ℕ = (c.in-Some.line_name.now, c.in-Some._value.now) in
    let other : has_name name line ≡ false = search rules in
    record {
      edit = λ replacement. other_line name replacement head c.lines.at line (search rules) other
          ∙ c.lines.invariant.edit replacement;
      named = any_passed (has_name name) head.headers c.lines.at line (search rules) other ∙ c.lines.invariant.named;
    }

pub returns-clause-none : goal.returns-clause-none
returns-clause-none c replacement =
    sym (c.lines.invariant.edit replacement)
    ∙ all_replaced c.args.name.now replacement c.args.message.now c.lines.at (omega arith)
