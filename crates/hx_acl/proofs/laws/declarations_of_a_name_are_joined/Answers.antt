use Rattle.hx_acl.proofs.HoldsLemmas.{declared_more}
use Rattle.hx_acl.proofs.laws.declarations_of_a_name_are_joined.Goals as goal

pub returns : goal.returns
returns c = λ context heads lists acls. declared_more context heads lists acls c.args.name.now c.args.decl.now
