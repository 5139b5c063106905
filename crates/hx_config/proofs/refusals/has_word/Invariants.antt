use Rattle.std.proofs.Common.{◌≡◌, length}
use Rattle.hx_config.specs.Refusals.{has_word}
use Rattle.hx_config.proofs.refusals.has_word.Given as goal

abbrev pub invariant-loop-rest : goal.invariant-loop-rest
invariant-loop-rest l = has_word l.asked l.rest ≡ has_word l.asked l.words

abbrev pub decreases-loop-rest : goal.decreases-loop-rest
decreases-loop-rest l = length l.rest
