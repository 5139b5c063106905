use Rattle.std.proofs.Common.{◌≡◌, length}
use Rattle.hx_base.specs.Pairs.{entry_at}
use Rattle.hx_config.specs.Tables.{pairs_in}
use Rattle.hx_config.proofs.table.value_at.Given as goal

abbrev pub invariant-loop-rest : goal.invariant-loop-rest
invariant-loop-rest l = entry_at (pairs_in l.rest) l.name ≡ entry_at (pairs_in l.table) l.name

abbrev pub decreases-loop-rest : goal.decreases-loop-rest
decreases-loop-rest l = length l.rest
