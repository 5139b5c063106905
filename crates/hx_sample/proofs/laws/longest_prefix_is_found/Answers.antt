use Rattle.hx_sample.proofs.FindLemmas.{longest_found}
use Rattle.hx_sample.proofs.laws.longest_prefix_is_found.Goals as goal

pub returns : goal.returns
returns c = longest_found
