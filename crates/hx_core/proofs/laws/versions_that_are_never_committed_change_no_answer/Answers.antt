use Rattle.hx_core.specs.World.{first_world}
use Rattle.hx_core.proofs.UnseenRunLemmas.{runs_alike, worlds_begin}
use Rattle.hx_core.proofs.laws.versions_that_are_never_committed_change_no_answer.Goals as goal

pub returns-clause-runs : goal.returns-clause-runs
returns-clause-runs c = λ r v rules refs events apart never.
    runs_alike r v events (first_world rules refs) (first_world rules refs) (worlds_begin r v rules refs apart) never

pub returns-clause-alike : goal.returns-clause-alike
returns-clause-alike c = λ r v first second events both never. runs_alike r v events first second both never
