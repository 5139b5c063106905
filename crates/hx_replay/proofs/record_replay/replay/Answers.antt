use Rattle.std.proofs.Common.{Err, ap}
use Rattle.std.proofs.lemmas.Result.{err_from_is_err_and}
use Rattle.hx_replay.proofs.BeforeReadingLemmas.{gathered_written}
use Rattle.hx_replay.proofs.ReplayLemmas.{handed_back, handed_on, replays_written, replays_written_part, sink_kinds, sink_not_large}
use Rattle.hx_replay.specs.Gathering.{fault_of_sink}
use Rattle.hx_replay.specs.declared.replay_fault.ReplayFault.TheVariants as replay
use Rattle.hx_replay.proofs.record_replay.replay.Goals as goal

pub returns-in_err-write_answers-clause-replays : goal.returns-in_err-write_answers-clause-replays
returns-in_err-write_answers-clause-replays g c =
    let p = err_from_is_err_and c.from_residual.result c.from_residual.ensures.1 in
    rw (p.1, p.2) (replays_written_part g.A.Answerer.behavior (g.A.Answerer.state c.args.answerer.now) (g.A.Answerer.state c.gather-ended.new.answerer) (g.S.Source.left c.args.record_in.now) (g.K.Sink.written c.args.out.now)
    (g.K.Sink.written c.gather-ended.new.out) (g.K.Sink.written c.write_answers.new.out) c.gather-ended.new.answers c.gather-ended.result
    c.gather-ended.ensures.replays c.write_answers.ensures.prefix c.in_err-write_answers.field-0.0)

pub returns-clause-replays : goal.returns-clause-replays
returns-clause-replays g c =
    replays_written g.A.Answerer.behavior (g.A.Answerer.state c.args.answerer.now) (g.A.Answerer.state c.gather-ended.new.answerer) (g.S.Source.left c.args.record_in.now) (g.K.Sink.written c.args.out.now)
    (g.K.Sink.written c.gather-ended.new.out) (g.K.Sink.written c.write_answers.new.out) c.gather-ended.new.answers c.gather-ended.result
    c.gather-ended.ensures.replays c.in_ok-write_answers.ensures.ok

pub returns-in_err-write_answers-clause-too_large : goal.returns-in_err-write_answers-clause-too_large
returns-in_err-write_answers-clause-too_large g c = λ is.
    let p = err_from_is_err_and c.from_residual.result c.from_residual.ensures.1 in
    let large = handed_on c.from_residual.result p.0 (fault_of_sink c.in_err-write_answers.field-0.0) replay.TooLarge p.1 p.2 is in
    absurd (sink_not_large c.in_err-write_answers.field-0.0 large)

pub returns-in_err-write_answers-clause-uncounted : goal.returns-in_err-write_answers-clause-uncounted
returns-in_err-write_answers-clause-uncounted g c = λ not_large no_sink no_memory.
    let p = err_from_is_err_and c.from_residual.result c.from_residual.ensures.1 in
    let back = handed_back c.from_residual.result p.0 (fault_of_sink c.in_err-write_answers.field-0.0) in
    absurd (sink_kinds c.in_err-write_answers.field-0.0 (λ is. no_sink (back replay.Sink p.1 p.2 (ap Err is))) (λ is. no_memory (back replay.NoMemory p.1 p.2 (ap Err is))))

pub returns-in_err-write_answers-clause-before_reading : goal.returns-in_err-write_answers-clause-before_reading
returns-in_err-write_answers-clause-before_reading g c =
    gathered_written g.A.Answerer.behavior (g.A.Answerer.state c.args.answerer.now) (g.S.Source.log c.args.record_in.now) (g.S.Source.log c.gather-ended.new.record_in)
    (g.K.Sink.written c.args.out.now) (g.K.Sink.written c.gather-ended.new.out) (g.K.Sink.written c.write_answers.new.out) c.gather-ended.new.answers
    c.gather-ended.ensures.before_reading c.write_answers.ensures.prefix

pub returns-clause-before_reading : goal.returns-clause-before_reading
returns-clause-before_reading g c =
    gathered_written g.A.Answerer.behavior (g.A.Answerer.state c.args.answerer.now) (g.S.Source.log c.args.record_in.now) (g.S.Source.log c.gather-ended.new.record_in)
    (g.K.Sink.written c.args.out.now) (g.K.Sink.written c.gather-ended.new.out) (g.K.Sink.written c.write_answers.new.out) c.gather-ended.new.answers
    c.gather-ended.ensures.before_reading c.write_answers.ensures.prefix
