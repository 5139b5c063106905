use Rattle.hx_cases_acls.specs.Uses.{HaveHadNone}
use Rattle.hx_cases_acls.proofs.uses.empty_references.Given as goal

abbrev pub invariant-loop-spec : goal.invariant-loop-spec
invariant-loop-spec l = HaveHadNone l.refs.content

abbrev pub invariant-loop-head : goal.invariant-loop-head
invariant-loop-head l = HaveHadNone l.refs.content
