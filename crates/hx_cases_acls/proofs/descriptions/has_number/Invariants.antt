use Rattle.hx_cases_acls.proofs.DescriptionLemmas.{HasOtherNumber, HoldsBefore}
use Rattle.hx_cases_acls.proofs.descriptions.has_number.Given as goal

abbrev pub invariant-loop-position : goal.invariant-loop-position
invariant-loop-position l = HoldsBefore (HasOtherNumber l.number) l.position l.refs.content.references
