use Rattle.hx_match.proofs.ExpressionLemmas.{found_alike}
use Rattle.hx_match.proofs.hitting.finds.Goals as goal

pub returns : goal.returns
returns c ci key read =
    found_alike ci key c.args.text.now c.in_ok-hit.hit c.args.re.now read c.in_ok-hit.ensures
