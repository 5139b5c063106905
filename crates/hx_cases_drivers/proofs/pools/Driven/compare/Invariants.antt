use Rattle.hx_cases_drivers.proofs.pools.Driven.compare.Given as goal

abbrev pub invariant-loop-index : goal.invariant-loop-index
invariant-loop-index g l = Unit {0}

abbrev pub invariant-loop-id : goal.invariant-loop-id
invariant-loop-id g l = Unit {0}
