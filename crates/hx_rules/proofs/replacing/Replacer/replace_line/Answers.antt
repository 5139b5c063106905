use Rattle.std.proofs.Common.{ℕ, List, Option, Some, sym, ap, subst, ◌∙◌}
use Rattle.hx_rules.specs.ReplacingView.{replacement_by, IsNewValue}
use Rattle.hx_rules.proofs.ReplacingLemmas.{line_stays, new_line_ok, new_line_refused}
use Rattle.hx_rules.proofs.replacing.Replacer.replace_line.Goals as goal

pub returns-in-Some-clause-ok : goal.returns-in-Some-clause-ok
returns-in-Some-clause-ok c =
    let name = c.args.name.now in
    let head = c.args.message.now in
    let replacement = replacement_by c.args.self.now in
    let OfNew : Option (List ℕ) → Type 0 = λ new. IsNewValue name replacement head c.args.at new in
    let new = subst OfNew (c.in-Some.is ∙ ap Some (sym c.as_slice.ensures)) c.in_ok-new.ensures in
    new_line_ok c.replace_value.result name replacement head c.replace_value.new.self c.args.at c.as_slice.result.now new
    c.replace_value.ensures.ok c.replace_value.ensures.none

pub returns-in-Some-clause-refused : goal.returns-in-Some-clause-refused
returns-in-Some-clause-refused c =
    let name = c.args.name.now in
    let head = c.args.message.now in
    let replacement = replacement_by c.args.self.now in
    let OfNew : Option (List ℕ) → Type 0 = λ new. IsNewValue name replacement head c.args.at new in
    let new = subst OfNew (c.in-Some.is ∙ ap Some (sym c.as_slice.ensures)) c.in_ok-new.ensures in
    new_line_refused c.replace_value.result name replacement head c.args.at c.as_slice.result.now new
    c.replace_value.ensures.refused

pub returns-in-None-clause-ok : goal.returns-in-None-clause-ok
returns-in-None-clause-ok c =
    let name = c.args.name.now in
    let head = c.args.message.now in
    let replacement = replacement_by c.args.self.now in
    let OfNew : Option (List ℕ) → Type 0 = λ new. IsNewValue name replacement head c.args.at new in
    line_stays name replacement head c.args.at (subst OfNew c.in-None.is c.in_ok-new.ensures)
