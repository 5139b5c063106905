use Rattle.hx_match.proofs.TextLemmas.{begins_folded}
use Rattle.hx_match.proofs.texts.begins.Goals as goal

pub returns-then-text-key-clause-value : goal.returns-then-text-key-clause-value
returns-then-text-key-clause-value c =
    rw c.if-ci.true
    (begins_folded c.args.text.now c.args.key.now c.eq_ignore_ascii_case.result c.eq_ignore_ascii_case.ensures.test)
