use Rattle.hx_sample.proofs.LawLemmas.{set_here, set_elsewhere}
use Rattle.hx_sample.proofs.laws.set_variable_is_got.Goals as goal

pub returns-clause-got : goal.returns-clause-got
returns-clause-got c =
    set_here c.args.vars.now c.args.conn c.args.name.now c.args.value.now

pub returns-clause-others : goal.returns-clause-others
returns-clause-others c = λ conn n differ.
    set_elsewhere c.args.vars.now c.args.conn c.args.name.now c.args.value.now conn n differ
