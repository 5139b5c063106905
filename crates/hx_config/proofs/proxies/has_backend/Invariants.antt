use Rattle.std.proofs.Common.{◌≡◌, length}
use Rattle.hx_config.specs.Proxies.{has_backend}
use Rattle.hx_config.proofs.proxies.has_backend.Given as goal

abbrev pub invariant-loop-rest : goal.invariant-loop-rest
invariant-loop-rest l = has_backend l.name l.rest ≡ has_backend l.name l.lines

abbrev pub decreases-loop-rest : goal.decreases-loop-rest
decreases-loop-rest l = length l.rest
