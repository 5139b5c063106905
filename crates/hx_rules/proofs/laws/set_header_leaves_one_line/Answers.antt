use Rattle.hx_rules.proofs.LawLemmas.{header_set, one_of_name, others_stay}
use Rattle.hx_rules.proofs.laws.set_header_leaves_one_line.Goals as goal

pub returns-clause-effect : goal.returns-clause-effect
returns-clause-effect g c = λ view conn acls rule format state is taken passes.
    header_set view conn acls rule c.args.name.now format state is taken passes

pub returns-clause-one : goal.returns-clause-one
returns-clause-one g c = λ head. one_of_name c.args.name.now c.args.value.now head

pub returns-clause-others : goal.returns-clause-others
returns-clause-others g c = λ head. others_stay c.args.name.now c.args.value.now head
