use Rattle.std.proofs.Common.{true}
use Rattle.hx_sample.specs.Keys.{folded}
use Rattle.hx_match.proofs.TextLemmas.{found_nowhere, found_part}
use Rattle.hx_match.proofs.texts.has_part_folded.Goals as goal

pub returns-in-Some : goal.returns-in-Some
returns-in-Some c =
    found_part (folded true c.args.text.now) c.args.needle.now.bytes.items c.in-Some.field-0 c.in-Some.ensures.1

pub returns-in-None : goal.returns-in-None
returns-in-None c = found_nowhere (folded true c.args.text.now) c.args.needle.now.bytes.items c.in-None.ensures
