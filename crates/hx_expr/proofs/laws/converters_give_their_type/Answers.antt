use Rattle.hx_expr.proofs.KindLemmas.{converted_kind}
use Rattle.hx_expr.proofs.laws.converters_give_their_type.Goals as goal

pub returns : goal.returns
returns c = λ context heads lists input. converted_kind context heads lists c.args.conv.now input
