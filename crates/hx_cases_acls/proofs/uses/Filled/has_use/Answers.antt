use Rattle.std.proofs.Common.{◌≡◌, ◌∙◌, rules, sym}
use denote.Enum.Bare.{same_true}
use Rattle.hx_text.specs.contracts.kinds.By.{the_type}
use Rattle.hx_cases_acls.proofs.UseLemmas.{told_use_has_head}
use Rattle.hx_cases_acls.proofs.uses.Filled.has_use.Goals as goal

pub returns-then-eq : goal.returns-then-eq
returns-then-eq c = λ _.
    let method : c.in-Some.method ≡ c.args.by =
    same_true the_type (search rules) _ _ (sym c.if-eq.ensures) in
    rw (← c.if-number-head.true, ← method)
    (told_use_has_head c.args.self.now.refs.content.heads c.args.position c.loop-place.place
    c.in-Some.method c.in-Some.field-0-1 c.in-Some.number (sym c.in-Some.is ∙ c.use_at.ensures))
