use Rattle.std.proofs.Common.{◌-◌, length}
use Rattle.std.proofs.lemmas.List.{take_rest}
use Rattle.hx_match.proofs.TextLemmas.{ends_folded}
use Rattle.hx_match.proofs.texts.ends.Goals as goal

pub returns-then-text-key : goal.returns-then-text-key
returns-then-text-key c =
    let text = c.args.text.now in
    let key = c.args.key.now in
    rw c.if-ci.true
    (ends_folded text key c.eq_ignore_ascii_case.result
    (rw (take_rest text (length text - length key)) at c.eq_ignore_ascii_case.ensures.test))
