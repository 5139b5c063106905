use Rattle.hx_sample.specs.Tables.{empty_heads}
use Rattle.hx_expr.proofs.HeadLemmas.{heads_without_maps}
use Rattle.hx_expr.proofs.laws.no_map_needs_no_head.Goals as goal

pub returns-clause-any : goal.returns-clause-any
returns-clause-any c = λ heads. heads_without_maps heads c.args.plan.now.convs c.requires

pub returns-clause-empty : goal.returns-clause-empty
returns-clause-empty c = heads_without_maps empty_heads c.args.plan.now.convs c.requires
