use Rattle.std.proofs.Common.{ap}
use Rattle.hx_refs.specs.Changes.{answer}
use Rattle.hx_refs.proofs.kept_references.KeptReferences.delete.Goals as goal

pub returns-in-Some-clause-answer : goal.returns-in-Some-clause-answer
returns-in-Some-clause-answer c = ap (answer tt) c.in-Some.ensures

pub returns-clause-answer : goal.returns-clause-answer
returns-clause-answer c = ap (answer tt) c.in_default.ensures
