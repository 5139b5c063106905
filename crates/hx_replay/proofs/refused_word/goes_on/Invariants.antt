use Rattle.std.proofs.Common.{length}
use Rattle.hx_replay.proofs.refused_word.goes_on.Given as goal

abbrev pub decreases-loop-probes : goal.decreases-loop-probes
decreases-loop-probes l = length l.probes
