use Rattle.hx_cases_acls.proofs.DescriptionLemmas.{HasOtherFile, HoldsBefore}
use Rattle.hx_cases_acls.proofs.descriptions.has_name.Given as goal

abbrev pub invariant-loop-position : goal.invariant-loop-position
invariant-loop-position l = HoldsBefore (HasOtherFile l.name) l.position l.refs.content.references
