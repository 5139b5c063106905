use Rattle.std.proofs.Common.{List, ℕ, length}
use Rattle.hx_pool.specs.Chain.{LiesIn, links_at}
use Rattle.hx_sample.specs.Slots.{variable_links}
use Rattle.hx_sample.proofs.WalkLemmas.{Walks, chain_left}
use Rattle.hx_sample.proofs.slots.find.Given as goal

abbrev pub invariant-loop-at : goal.invariant-loop-at
invariant-loop-at g l = (xs : List ℕ) → LiesIn variable_links l.slots l.chain xs → Walks l.slots xs l.name l.at

abbrev pub decreases-loop-at : goal.decreases-loop-at
decreases-loop-at g l = chain_left (links_at variable_links l.slots) (length l.slots.slots) l.at
