use Rattle.std.proofs.Common.{◌<◌, ◌-◌, length}
use Rattle.hx_http.proofs.spans.has_head.Given as goal

abbrev pub invariant-loop-found : goal.invariant-loop-found
invariant-loop-found l = 0 < l.room

abbrev pub decreases-loop-found : goal.decreases-loop-found
decreases-loop-found l = length l.bytes - l.room
