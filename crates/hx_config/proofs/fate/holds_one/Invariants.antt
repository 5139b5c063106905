use Rattle.std.proofs.Common.{◌≡◌, length}
use Rattle.hx_config.specs.Fates.{holds_one}
use Rattle.hx_config.proofs.fate.holds_one.Given as goal

abbrev pub invariant-loop-rest : goal.invariant-loop-rest
invariant-loop-rest l = holds_one l.sections l.first l.second l.rest ≡ holds_one l.sections l.first l.second l.lines

abbrev pub decreases-loop-rest : goal.decreases-loop-rest
decreases-loop-rest l = length l.rest
