use Rattle.std.proofs.Common.{◌≡◌, length}
use Rattle.hx_config.specs.LeftOut.{reason_by}
use Rattle.hx_config.specs.Tables.{triples_in}
use Rattle.hx_config.proofs.left_out.reason_by.Given as goal

abbrev pub invariant-loop-rest : goal.invariant-loop-rest
invariant-loop-rest l = reason_by (triples_in l.rest) l.words ≡ reason_by (triples_in l.rows) l.words

abbrev pub decreases-loop-rest : goal.decreases-loop-rest
decreases-loop-rest l = length l.rest
