use Rattle.hx_match.proofs.TextLemmas.{found_nowhere, found_part}
use Rattle.hx_match.proofs.texts.has_part.Goals as goal

pub returns-in-Some : goal.returns-in-Some
returns-in-Some c =
    found_part c.args.text.now c.args.finder.now c.in-Some.field-0 c.in-Some.ensures.1

pub returns-in-None : goal.returns-in-None
returns-in-None c = found_nowhere c.args.text.now c.args.finder.now c.in-None.ensures
