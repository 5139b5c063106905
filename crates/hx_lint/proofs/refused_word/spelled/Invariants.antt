use Rattle.std.proofs.Common.{◌≡◌, length}
use Rattle.hx_calls.specs.Known.{nothing_known}
use Rattle.hx_lint.specs.Judging.{known_after}
use Rattle.hx_lint.proofs.refused_word.spelled.Given as goal

abbrev pub invariant-loop-rest : goal.invariant-loop-rest
invariant-loop-rest l = known_after l.rest l.speller ≡ known_after l.lines nothing_known

abbrev pub decreases-loop-rest : goal.decreases-loop-rest
decreases-loop-rest l = length l.rest
