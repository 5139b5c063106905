use Rattle.std.proofs.Common.{◌≡◌, length, map}
use Rattle.hx_config.specs.Refusals.{line_reason, row_of}
use Rattle.hx_config.proofs.refusals.line_reason.Given as goal

abbrev pub invariant-loop-rest : goal.invariant-loop-rest
invariant-loop-rest l = line_reason (map row_of l.rest) l.words ≡ line_reason (map row_of l.rows) l.words

abbrev pub decreases-loop-rest : goal.decreases-loop-rest
decreases-loop-rest l = length l.rest
