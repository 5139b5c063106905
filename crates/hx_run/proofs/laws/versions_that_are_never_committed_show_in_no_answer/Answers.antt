use Rattle.hx_replay.specs.Program.{initial_world}
use Rattle.hx_run.proofs.UnseenLemmas.{shows_in_no_answer}
use Rattle.hx_run.proofs.laws.versions_that_are_never_committed_show_in_no_answer.Goals as goal

pub returns : goal.returns
returns c = λ given old new done r v apart never.
    shows_in_no_answer r v (initial_world done.program) done.events old new
    (c.versions_that_are_never_committed_change_no_answer.ensures.runs r v done.program.rules done.program.references done.events apart never)
    done.allowed done.written
