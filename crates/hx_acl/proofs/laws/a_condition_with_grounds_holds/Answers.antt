use Rattle.hx_acl.proofs.GroundLemmas.{some_conj, some_held}
use Rattle.hx_acl.proofs.laws.a_condition_with_grounds_holds.Goals as goal

pub returns-clause-condition : goal.returns-clause-condition
returns-clause-condition c = λ context heads lists acls cond. some_held context heads lists acls 1 cond

pub returns-clause-conjunction : goal.returns-clause-conjunction
returns-clause-conjunction c = λ context heads lists acls conj. some_conj context heads lists acls conj
