use Rattle.std.proofs.Common.{◌≡◌, length}
use Rattle.hx_config.specs.Proxies.{holds}
use Rattle.hx_config.proofs.proxies.holds.Given as goal

abbrev pub invariant-loop-rest : goal.invariant-loop-rest
invariant-loop-rest l = holds l.rest l.line ≡ holds l.sections l.line

abbrev pub decreases-loop-rest : goal.decreases-loop-rest
decreases-loop-rest l = length l.rest
