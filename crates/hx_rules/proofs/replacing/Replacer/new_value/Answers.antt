use Rattle.std.proofs.Common.{◌≡◌, ℕ, List, true, false, refl, rules}
use Rattle.std.proofs.lemmas.Result.{IfOk-weaker}
use Rattle.hx_http.specs.Edits.{has_name}
use Rattle.hx_rules.proofs.replacing.Replacer.new_value.Goals as goal

pub returns-then-not-eq_ignore_ascii_case :
    goal.returns-then-not-eq_ignore_ascii_case
returns-then-not-eq_ignore_ascii_case c =
    let found = c.in-Some.ensures.line in
    let test = c.if-not-eq_ignore_ascii_case.ensures.test in
    let line : List ℕ × List ℕ = (c.in-Some.line_name.now, c.in-Some.value.now) in
    let other : has_name c.args.name.now line ≡ false = search rules in
    record { line = line; is = search rules; value = rw other refl }

pub returns : goal.returns
returns c =
    let found = c.in-Some.ensures.line in
    let test = c.if-not-eq_ignore_ascii_case.ensures.test in
    let line : List ℕ × List ℕ = (c.in-Some.line_name.now, c.in-Some.value.now) in
    let named : has_name c.args.name.now line ≡ true = search rules in
    IfOk-weaker c.replaced.result _ _ (λ made same. record { line = line; is = search rules; value = rw named same })
    c.replaced.ensures
