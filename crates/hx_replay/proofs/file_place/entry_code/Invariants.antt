use Rattle.std.proofs.Common.{length}
use Rattle.hx_replay.proofs.file_place.entry_code.Given as goal

abbrev pub decreases-loop-rest : goal.decreases-loop-rest
decreases-loop-rest l = length l.rest
