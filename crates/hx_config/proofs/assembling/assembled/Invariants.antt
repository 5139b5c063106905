use Rattle.std.proofs.Common.{◌≡◌, length}
use Rattle.hx_config.specs.Assembling.{appended_to, assembled}
use Rattle.hx_config.proofs.assembling.assembled.Given as goal

abbrev pub invariant-loop-rest : goal.invariant-loop-rest
invariant-loop-rest l = appended_to l.out.items l.is_open l.skip l.rest ≡ assembled l.format

abbrev pub decreases-loop-rest : goal.decreases-loop-rest
decreases-loop-rest l = length l.rest
