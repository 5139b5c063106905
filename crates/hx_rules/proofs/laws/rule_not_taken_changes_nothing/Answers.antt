use Rattle.hx_rules.proofs.LawLemmas.{not_taken, passed_over}
use Rattle.hx_rules.proofs.laws.rule_not_taken_changes_nothing.Goals as goal

pub returns-clause-evaluation : goal.returns-clause-evaluation
returns-clause-evaluation g c = λ view conn program origin state before rule after at none.
    passed_over at (not_taken view conn program.acls rule state none)
