use Rattle.std.proofs.Common.{List, ℕ}
use Rattle.hx_pool.specs.Pool.{live_count}
use Rattle.hx_sample.specs.declared.stored_variable.Owner.{Owner}
use Rattle.hx_sample.specs.Slots.{Leads}
use Rattle.hx_sample.proofs.ChangeLemmas.{Clears}
use Rattle.hx_sample.proofs.slots.clear.Given as goal

abbrev pub invariant-loop-id : goal.invariant-loop-id
invariant-loop-id g l = (owner : Owner) (xs : List ℕ) → Leads l.fn.slots l.fn.chain owner xs → Clears l.fn.slots l.slots l.chain owner

abbrev pub decreases-loop-id : goal.decreases-loop-id
decreases-loop-id g l = live_count l.slots
