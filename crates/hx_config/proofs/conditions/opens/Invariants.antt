use Rattle.std.proofs.Common.{◌≡◌, length}
use Rattle.hx_config.specs.Conditions.{opens}
use Rattle.hx_config.proofs.conditions.opens.Given as goal

abbrev pub invariant-loop-rest : goal.invariant-loop-rest
invariant-loop-rest l = opens l.rest ≡ opens l.word

abbrev pub decreases-loop-rest : goal.decreases-loop-rest
decreases-loop-rest l = length l.rest
