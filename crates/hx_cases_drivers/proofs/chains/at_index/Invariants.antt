use Rattle.std.proofs.Common.{ℕ, List}
use Rattle.hx_pool.specs.Chain.{LiesIn}
use Rattle.hx_cases_drivers.specs.declared.chains.Item.{Item}
use Rattle.hx_cases_drivers.proofs.WalkLemmas.{Walks}
use Rattle.hx_cases_drivers.proofs.chains.at_index.Given as goal

abbrev pub invariant-loop-passed : goal.invariant-loop-passed
invariant-loop-passed g l = (xs : List ℕ) → LiesIn (λ (item : Item). item.links) l.pool l.chain xs → Walks xs l.at
