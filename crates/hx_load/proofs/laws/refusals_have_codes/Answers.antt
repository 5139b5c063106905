use Rattle.hx_load.proofs.CodeLemmas.{refusal_within}
use Rattle.hx_load.proofs.laws.refusals_have_codes.Goals as goal

pub returns : goal.returns
returns c = refusal_within
