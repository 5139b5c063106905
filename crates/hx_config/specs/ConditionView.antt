-- Where a word of a condition stands, as the code keeps it.
use Rattle.hx_config.specs.Conditions.{TestState}
use Rattle.hx_config.specs.Conditions as states
use Rattle.hx_config.specs.declared.conditions.TestState.{TestState as CodeState}
use Rattle.hx_config.specs.declared.conditions.TestState.TheVariants as state

abbrev pub state_of : CodeState → TestState
state_of state.Outside = states.Outside
state_of state.Criterion = states.Criterion
state_of state.AfterCriterion = states.AfterCriterion
state_of state.AfterMethod = states.AfterMethod
state_of state.Ignored = states.Ignored
state_of state.Inside = states.Inside
