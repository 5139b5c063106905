use Rattle.hx_words.specs.StepView.{step_view}
use Rattle.hx_calls.proofs.CriterionSteps.{expr_by_step, from_step}
use Rattle.hx_calls.proofs.expression.expr_of.Goals as goal

pub returns-clause-answers : goal.returns-clause-answers
returns-clause-answers c =
    rw (expr_by_step c.args.stop c.args.line c.args.text.now c.args.known.now
    (step_view c.in_ok-step.step) c.in_ok-step.ensures.step c.call_law.ensures.repeats)
    c.expr_from.ensures.answers

pub returns-clause-rest : goal.returns-clause-rest
returns-clause-rest c =
    rw (from_step c.args.stop c.args.text.now (step_view c.in_ok-step.step)
    c.in_ok-step.ensures.step c.call_law.ensures.repeats)
    c.expr_from.ensures.rest
