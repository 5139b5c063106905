use Rattle.hx_refs.specs.Changes.{value_fault}
use Rattle.hx_refs.specs.Kept.{kept_fault}
use Rattle.hx_versions.specs.Versions.{is_chosen}
use Rattle.hx_refs.proofs.ChangeLemmas.{may_own}
use Rattle.hx_refs.proofs.kept_references.KeptReferences.set.Goals as goal

pub returns-in-Some-clause-refused : goal.returns-in-Some-clause-refused
returns-in-Some-clause-refused c =
    may_own (kept_fault c.args.self.now.kept c.args.r (value_fault c.args.ver (is_chosen c.args.choice.now) c.args.value.now))
    c.in-Some.fault c.in-Some.ensures
