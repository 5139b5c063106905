use Rattle.hx_words.specs.StepView.{step_view}
use Rattle.hx_calls.proofs.CriterionSteps.{criterion_by_step}
use Rattle.hx_calls.proofs.criteria.criterion_of.Goals as goal

pub returns-clause-answers : goal.returns-clause-answers
returns-clause-answers c =
    rw (criterion_by_step c.args.line c.args.text.now c.args.known.now (step_view c.in_ok-step.step)
    c.in_ok-step.ensures.step c.call_law.ensures.repeats)
    c.criterion_from.ensures.answers
