use Rattle.hx_core.proofs.UnseenEventLemmas.{left_out_alike, left_out_stands}
use Rattle.hx_core.proofs.laws.events_on_a_version_change_that_version_alone.Goals as goal

pub returns-clause-refusal : goal.returns-clause-refusal
returns-clause-refusal c = left_out_stands

pub returns-clause-after : goal.returns-clause-after
returns-clause-after c = left_out_alike
