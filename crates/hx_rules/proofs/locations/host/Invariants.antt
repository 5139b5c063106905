use Rattle.std.proofs.Common.{◌≡◌, drop}
use Rattle.hx_rules.specs.Locations.{host_of}
use Rattle.hx_rules.proofs.locations.host.Given as goal

-- the first line `Host` of those that are left is that of all
abbrev pub invariant-loop-at : goal.invariant-loop-at
invariant-loop-at l =
    host_of (record l.message { headers = drop l.at l.message.headers }) ≡ host_of l.message
