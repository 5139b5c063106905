use Rattle.std.proofs.Common.{◌≡◌, length}
use Rattle.hx_words.specs.Calls.{steps_of}
use Rattle.hx_calls.specs.Criteria.{convs_after}
use Rattle.hx_calls.specs.Formats.{rest_after}
use Rattle.hx_calls.specs.Known.{Extends}
use Rattle.hx_calls.proofs.CriterionSteps.{longer_reading}
use Rattle.hx_calls.proofs.criteria.convs_of.Given as goal

abbrev pub invariant-calls : goal.invariant-calls
invariant-calls l =
    Extends l.fn.known l.known
    × (convs_after l.fn.line (steps_of l.stop l.fn.text) l.fn.known
    ≡ longer_reading l.convs (convs_after l.fn.line (steps_of l.stop l.rest) l.known))
    × (rest_after (steps_of l.stop l.fn.text) ≡ rest_after (steps_of l.stop l.rest))

abbrev pub decreases-calls : goal.decreases-calls
decreases-calls l = length l.rest
