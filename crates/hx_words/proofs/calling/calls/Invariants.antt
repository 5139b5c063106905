use Rattle.std.proofs.Common.{length}
use Rattle.hx_words.proofs.CallLemmas.{KeepsCalls}
use Rattle.hx_words.proofs.calling.calls.Given as goal

abbrev pub invariant-calls : goal.invariant-calls
invariant-calls l = KeepsCalls l.stop l.text l.rest l.calls.items

abbrev pub decreases-calls : goal.decreases-calls
decreases-calls l = length l.rest
