use Rattle.std.proofs.Common.{◌≡◌, drop}
use Rattle.hx_diff.specs.Difference.{host_in}
use Rattle.hx_diff.proofs.difference.host.Given as goal

abbrev pub invariant-loop-at : goal.invariant-loop-at
invariant-loop-at l = host_in (drop l.at l.head.headers) ≡ host_in l.head.headers
