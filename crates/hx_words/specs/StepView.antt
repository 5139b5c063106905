-- The public `CallStep` as the definitions have it.
use Rattle.std.specs.Prelude.{ℕ, ◌<◌, ◌≤◌, length}
use Rattle.hx_words.specs.declared.call.CallStep.{CallStep}
use Rattle.hx_words.specs.declared.call.CallStep.TheVariants as code
use Rattle.hx_words.specs.Calls.{Step}
use Rattle.hx_words.specs.Calls.Step.{Last, More, Faulty}

-- what a step says
abbrev pub step_view : CallStep → Step
step_view (code.Last call rest) = Last call rest.now
step_view (code.More call rest) = More call rest.now
step_view (code.Faulty name fault) = Faulty name fault

-- what a step leaves unread of a text of this length is no longer, and shorter where another call
-- follows
abbrev pub Shortens : ℕ → CallStep → Type 0
Shortens len (code.Last call rest) = length rest.now ≤ len
Shortens len (code.More call rest) = length rest.now < len
Shortens len (code.Faulty name fault) = Unit {0}
