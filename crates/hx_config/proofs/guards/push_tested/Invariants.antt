use Rattle.std.proofs.Common.{◌≡◌, ◌++◌, true, length}
use Rattle.hx_config.specs.ConditionView.{state_of}
use Rattle.hx_config.specs.Conditions.{Outside}
use Rattle.hx_config.specs.Guards.{guard_test, tested}
use Rattle.hx_config.proofs.guards.push_tested.Given as goal

abbrev pub invariant-loop-rest : goal.invariant-loop-rest
invariant-loop-rest l =
    l.out.items
    ++ tested (guard_test l.test l.holds) l.is_first (state_of l.state) l.rest
    ≡ l.fn.out.items ++ tested (guard_test l.test l.holds) true Outside l.words

abbrev pub decreases-loop-rest : goal.decreases-loop-rest
decreases-loop-rest l = length l.rest
