use Rattle.std.proofs.Common.{◌≡◌, length}
use Rattle.hx_config.specs.Fates.{same_words}
use Rattle.hx_config.proofs.words.same_words.Given as goal

abbrev pub invariant-loop-left : goal.invariant-loop-left
invariant-loop-left l = same_words l.left l.right ≡ same_words l.words l.others

abbrev pub decreases-loop-left : goal.decreases-loop-left
decreases-loop-left l = length l.left
