use Rattle.hx_base.specs.Pairs.{pairs_of}
use Rattle.hx_lint.proofs.JudgingLemmas.{unread_is}
use Rattle.hx_lint.proofs.judging.judged.Goals as goal

pub returns-in-Err : goal.returns-in-Err
returns-in-Err c =
    unread_is (pairs_of c.args.env.now) c.args.number c.args.text.now c.args.speller.now c.in-Err.fault c.unsplit.result c.in-Err.ensures.fault c.unsplit.ensures
