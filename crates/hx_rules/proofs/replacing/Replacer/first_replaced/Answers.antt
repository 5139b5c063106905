use Rattle.std.proofs.Common.{ℕ, List, Option, sym, subst, ◌∙◌, arith}
use Rattle.hx_rules.specs.ReplacingView.{replacement_by, IsNewValue}
use Rattle.hx_rules.proofs.ReplacingLemmas.{all_replaced, line_stays}
use Rattle.hx_rules.proofs.replacing.Replacer.first_replaced.Goals as goal

pub lines-preserved : goal.lines-preserved
lines-preserved c =
    let name = c.args.name.now in
    let head = c.args.message.now in
    let replacement = replacement_by c.args.self.now in
    let OfNew : Option (List ℕ) → Type 0 = λ new. IsNewValue name replacement head c.lines.at new in
    line_stays name replacement head c.lines.at (subst OfNew c.in-None.is c.in_ok-new.ensures)
    ∙ c.lines.invariant

pub returns : goal.returns
returns c =
    sym c.lines.invariant
    ∙ all_replaced c.args.name.now (replacement_by c.args.self.now) c.args.message.now c.lines.at (omega arith)
