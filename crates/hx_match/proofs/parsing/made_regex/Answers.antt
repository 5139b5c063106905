use Rattle.std.proofs.Common.{◌≡◌, ap, rules}
use Rattle.std.specs.Prelude.{Err}
use Rattle.hx_match.proofs.ExpressionLemmas.{bad_expression, made_expression, no_utf8}
use Rattle.hx_match.proofs.parsing.made_regex.Goals as goal

pub returns-in-Ok-new-clause-none : goal.returns-in-Ok-new-clause-none
returns-in-Ok-new-clause-none g c =
    let same : c.in-Ok.utf8.now ≡ c.args.text.now = search rules in
    made_expression c.args.ci c.args.text.now c.in-Ok-make.made (search rules)
    (rw same at c.in-Ok-make.ensures.made)

pub returns-in-Err-BadRegex-clause-refused : goal.returns-in-Err-BadRegex-clause-refused
returns-in-Err-BadRegex-clause-refused g c =
    let bad = c.in-Err-BadRegex.ensures.bad (ap Err c.in-Err-BadRegex.field-0-is) in
    let same : c.in-Ok.utf8.now ≡ c.args.text.now = search rules in
    bad_expression c.args.ci c.args.text.now (search rules) (rw same at bad)

pub returns-in-Err-clause-refused : goal.returns-in-Err-clause-refused
returns-in-Err-clause-refused g c = no_utf8 c.args.ci c.args.text.now (search rules)
