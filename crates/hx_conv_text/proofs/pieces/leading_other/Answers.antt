use Rattle.std.proofs.Common.{Some, None}
use Rattle.hx_conv_text.proofs.SearchLemmas.{place_of_one}
use Rattle.hx_conv_text.proofs.pieces.leading_other.Goals as goal

pub returns-in-Some-clause-value : goal.returns-in-Some-clause-value
returns-in-Some-clause-value c = place_of_one c.args.byte c.args.text.now (Some c.in-Some.at) c.in-Some.ensures

pub returns-in-None-clause-value : goal.returns-in-None-clause-value
returns-in-None-clause-value c = place_of_one c.args.byte c.args.text.now None c.in-None.ensures
