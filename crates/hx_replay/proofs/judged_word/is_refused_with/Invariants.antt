use Rattle.std.proofs.Common.{length}
use Rattle.hx_replay.proofs.judged_word.is_refused_with.Given as goal

abbrev pub decreases-loop-ends : goal.decreases-loop-ends
decreases-loop-ends l = length l.ends
