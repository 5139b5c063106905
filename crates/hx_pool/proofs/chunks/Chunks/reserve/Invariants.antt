use Rattle.std.proofs.Common.{◌≡◌, ◌≤◌, ◌-◌}
use Rattle.hx_pool.proofs.chunks.Chunks.reserve.Given as goal

abbrev pub invariant-loop-self : goal.invariant-loop-self
invariant-loop-self g l = record { slots : l.self.0 ≡ l.initial.self.0; grows : l.initial.self.1 ≤ l.self.1 }

abbrev pub decreases-loop-self : goal.decreases-loop-self
decreases-loop-self g l = l.more - l.self.1
