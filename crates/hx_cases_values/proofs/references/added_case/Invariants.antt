use Rattle.std.proofs.Common.{◌<◌, length}
use Rattle.hx_cases_values.proofs.references.added_case.Given as goal

abbrev pub invariant-loop-text : goal.invariant-loop-text
invariant-loop-text l = 0 < length l.refs.content.references
