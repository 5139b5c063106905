use Rattle.hx_expr.proofs.KindLemmas.{values_kind}
use Rattle.hx_expr.proofs.laws.values_have_their_type.Goals as goal

pub returns : goal.returns
returns c = λ context heads lists. values_kind context heads lists c.args.expr.now
