use Rattle.hx_expr.proofs.CastLemmas.{some_cast}
use Rattle.hx_expr.proofs.laws.casts_of_the_table.Goals as goal

pub returns : goal.returns
returns c = some_cast c.args.from c.args.to
