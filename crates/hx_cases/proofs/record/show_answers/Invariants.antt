use Rattle.std.proofs.Common.{◌≡◌, true, []}
use Rattle.hx_cases.proofs.record.show_answers.Given as goal

abbrev pub invariant-calls : goal.invariant-calls
invariant-calls l = l.reader.ended ≡ true → l.source.left ≡ []
