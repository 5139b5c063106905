use Rattle.hx_calls.proofs.CriterionLemmas.{criterion_law}
use Rattle.hx_calls.proofs.laws.criterion_law.Goals as goal

pub returns : goal.returns
returns c = λ line before read. criterion_law line c.args.text.now before read
