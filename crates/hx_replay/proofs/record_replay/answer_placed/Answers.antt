use Rattle.std.proofs.lemmas.Result.{err_from_is_err_and}
use Rattle.hx_replay.proofs.ReplayLemmas.{event_lost, event_too_large, event_unanswered}
use Rattle.hx_replay.proofs.record_replay.answer_placed.Goals as goal

pub returns-in_err-write_many-in-Ok-clause-answers : goal.returns-in_err-write_many-in-Ok-clause-answers
returns-in_err-write_many-in-Ok-clause-answers g c =
    let p = err_from_is_err_and c.from_residual.result c.from_residual.ensures.1 in
    rw (p.1, p.2) (event_lost g.A.Answerer.behavior (g.A.Answerer.state c.args.answerer.now) (g.A.Answerer.state c.answer.new.self) c.args.placed.now
    (g.K.Sink.written c.args.out.now) (g.K.Sink.written c.write_many.new.out) c.args.answers.now c.answer.new.answers c.write_many.new.answers
    c.in_err-write_many-in-Ok.field-0.0 c.in-Ok.ensures.gathers c.in_err-write_many-in-Ok.ensures.prefix c.in_err-write_many-in-Ok.ensures.err)

pub returns-in-Err-NoMemory-clause-answers : goal.returns-in-Err-NoMemory-clause-answers
returns-in-Err-NoMemory-clause-answers g c =
    event_unanswered g.A.Answerer.behavior (g.A.Answerer.state c.args.answerer.now) (g.A.Answerer.state c.answer.new.self) c.args.placed.now (g.K.Sink.written c.args.out.now) c.args.answers.now c.answer.new.answers
    (rw c.in-Err-NoMemory.field-0-is at c.in-Err-NoMemory.ensures.gathers)

pub returns-in-Err-TooLarge-clause-answers : goal.returns-in-Err-TooLarge-clause-answers
returns-in-Err-TooLarge-clause-answers g c =
    event_too_large g.A.Answerer.behavior (g.A.Answerer.state c.args.answerer.now) (g.A.Answerer.state c.answer.new.self) c.args.placed.now (g.K.Sink.written c.args.out.now) c.args.answers.now c.answer.new.answers
    (rw c.in-Err-TooLarge.field-0-is at c.in-Err-TooLarge.ensures.gathers)
