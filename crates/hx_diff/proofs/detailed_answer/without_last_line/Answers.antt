use Rattle.std.proofs.Common.{arith}
use Rattle.hx_diff.proofs.LineLemmas.{alone, before_last}
use Rattle.hx_diff.proofs.detailed_answer.without_last_line.Goals as goal

pub returns-in-Some-memrchr-clause-lines : goal.returns-in-Some-memrchr-clause-lines
returns-in-Some-memrchr-clause-lines c = λ lines has.
    before_last lines c.args.text.now c.in-Some.end c.in-Some-memrchr.at has (omega (arith, c.in-Some.ensures)) c.in-Some-memrchr.ensures

pub returns-in-None-clause-lines : goal.returns-in-None-clause-lines
returns-in-None-clause-lines c = λ lines has.
    alone lines c.args.text.now c.in-Some.end has (omega (arith, c.in-Some.ensures)) c.in-None.ensures
