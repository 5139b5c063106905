use Rattle.std.proofs.Common.{ℕ, List}
use Rattle.hx_pool.specs.Chain.{LiesIn}
use Rattle.hx_cases_drivers.specs.declared.chains.Item.{Item}
use Rattle.hx_cases_drivers.proofs.WalkLemmas.{Walks}
use Rattle.hx_cases_drivers.proofs.chains.Chains.keys.Given as goal

abbrev pub invariant-loop-read : goal.invariant-loop-read
invariant-loop-read g l = (xs : List ℕ) → LiesIn (λ (item : Item). item.links) l.self-inside.pool l.self-inside.first xs → Walks xs l.at
