use Rattle.hx_rules.proofs.JudgedLemmas.{judged_at_the_end, judged_decides, judged_taken, reached_at_the_end}
use Rattle.hx_rules.proofs.laws.what_decides_is_judged_at_the_end.Goals as goal

pub returns-clause-always : goal.returns-clause-always
returns-clause-always g c = λ view conn program origin. judged_at_the_end view conn program origin

pub returns-clause-only : goal.returns-clause-only
returns-clause-only g c = λ view conn program origin statement state judged.
    judged_decides view conn program origin statement state judged

pub returns-clause-rule : goal.returns-clause-rule
returns-clause-rule g c = λ view conn program origin position rule state decides reached.
    reached_at_the_end view conn program origin position rule state decides reached

pub returns-clause-condition : goal.returns-clause-condition
returns-clause-condition g c = λ view conn program origin statement state unless cond judged is.
    judged_taken view conn program origin statement state unless cond judged is
