use Rattle.hx_acl.specs.Holds.{HasAclsHeads}
use Rattle.hx_cases_acls.proofs.conditions.declared.Given as goal

abbrev pub invariant-loop-statement : goal.invariant-loop-statement
invariant-loop-statement l = HasAclsHeads l.filled.refs.content.heads l.acls
