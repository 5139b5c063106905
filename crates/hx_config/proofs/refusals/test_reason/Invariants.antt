use Rattle.std.proofs.Common.{◌≡◌, length}
use Rattle.hx_config.specs.ConditionView.{state_of}
use Rattle.hx_config.specs.Refusals.{test_reason}
use Rattle.hx_config.proofs.refusals.test_reason.Given as goal

abbrev pub invariant-loop-rest : goal.invariant-loop-rest
invariant-loop-rest l =
    test_reason (state_of l.state) l.rest ≡ test_reason (state_of l.fn.first) l.words

abbrev pub decreases-loop-rest : goal.decreases-loop-rest
decreases-loop-rest l = length l.rest
