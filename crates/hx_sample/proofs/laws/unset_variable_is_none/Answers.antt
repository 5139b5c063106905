use Rattle.hx_sample.proofs.LawLemmas.{unset_here, unset_elsewhere}
use Rattle.hx_sample.proofs.laws.unset_variable_is_none.Goals as goal

pub returns-clause-none : goal.returns-clause-none
returns-clause-none c =
    unset_here c.args.vars.now c.args.conn c.args.name.now

pub returns-clause-others : goal.returns-clause-others
returns-clause-others c = λ conn n differ.
    unset_elsewhere c.args.vars.now c.args.conn c.args.name.now conn n differ
