use Rattle.hx_calls.proofs.ExpressionLemmas.{expr_law}
use Rattle.hx_calls.proofs.laws.expression_law.Goals as goal

pub returns : goal.returns
returns c = λ line before read. expr_law line c.args.text.now before read
