use Rattle.std.proofs.Common.{arith, Ok, Err, refl, subst, sym, ◌∙◌, ap}
use mathlib.Core.Bool.{true≢false}
use Rattle.std.proofs.lemmas.Result.{err_from_is_err_and}
use Rattle.hx_record.specs.declared.Next.TheVariants as next
use Rattle.hx_outside.specs.Count.{Rose}
use Rattle.hx_record.specs.State.{State}
use Rattle.hx_replay.specs.Gathering.{fault_of_reader}
use Rattle.hx_replay.specs.declared.replay_fault.ReplayFault.TheVariants as replay
use Rattle.hx_replay.proofs.BeforeReadingLemmas.{before_failure, event_writes}
use Rattle.hx_replay.proofs.ReplayLemmas.{failure_not_large, handed_back, handed_on, progress_begins, progress_decides, progress_fills, progress_answers, reader_not_large, replays_asks, replays_end, replays_fault, replays_lost, replays_event, replays_part, no_source, Answer, writes_decided}
use Rattle.hx_replay.proofs.record_replay.gather.Goals as goal

pub events-init : goal.events-init
events-init g c =
    let start = c.requires.start in rw c.requires.none (record {
      progress = progress_begins g.A.Answerer.AsksFor g.A.Answerer.behavior (g.A.Answerer.state c.args.answerer.now) c.args.reader.now (g.S.Source.left c.args.record_in.now)
          (g.S.Source.log c.args.record_in.now) (g.K.Sink.written c.args.out.now) start;
      within = omega (arith, ap (λ (s : State). s.at) start);
      ended = λ is. absurd (true≢false (sym is ∙ ap (λ (s : State). s.ended) start));
      running = c.requires.running;
      source = omega arith;
      sink = omega arith;
      too_large = refl;
      large = refl;
    })

pub returns-in_err-placed-clause-replays : goal.returns-in_err-placed-clause-replays
returns-in_err-placed-clause-replays g c =
    let p = err_from_is_err_and c.from_residual.result c.from_residual.ensures.1 in
    rw (p.1, p.2) (replays_fault g.A.Answerer.AsksFor g.A.Answerer.behavior (g.A.Answerer.state c.args.answerer.now) (g.A.Answerer.state c.events.answerer) c.next_decided.new.self (g.S.Source.left c.args.record_in.now)
    (g.S.Source.left c.events.record_in) (g.K.Sink.written c.args.out.now) (g.K.Sink.written c.events.out) c.events.answers c.in_err-placed.field-0.0
    (progress_decides g.A.Answerer.AsksFor g.A.Answerer.behavior (g.A.Answerer.state c.args.answerer.now) (g.A.Answerer.state c.events.answerer) c.events.reader c.next_decided.new.self (g.S.Source.left c.args.record_in.now)
    (g.S.Source.left c.events.record_in) (g.K.Sink.written c.args.out.now) (g.K.Sink.written c.events.out) c.events.answers
    (Err c.in_err-placed.field-0.0) c.events.invariant.progress c.in_err-placed.ensures.decides)
    (λ is. c.events.invariant.ended (sym c.in_err-placed.ensures.decides.ended ∙ is)))

pub returns-in_err-placed-clause-decided : goal.returns-in_err-placed-clause-decided
returns-in_err-placed-clause-decided g c = λ is.
    let p = err_from_is_err_and c.from_residual.result c.from_residual.ensures.1 in
    let source = handed_on c.from_residual.result p.0 (fault_of_reader c.in_err-placed.field-0.0) replay.Source p.1 p.2 is in
    absurd (no_source c.events.reader c.next_decided.new.self c.in_err-placed.field-0.0 c.in_err-placed.ensures.decides source)

pub returns-in_err-placed-clause-empty : goal.returns-in_err-placed-clause-empty
returns-in_err-placed-clause-empty g c = λ is.
    let p = err_from_is_err_and c.from_residual.result c.from_residual.ensures.1 in
    let source = handed_on c.from_residual.result p.0 (fault_of_reader c.in_err-placed.field-0.0) replay.Source p.1 p.2 is in
    absurd (no_source c.events.reader c.next_decided.new.self c.in_err-placed.field-0.0 c.in_err-placed.ensures.decides source)

pub returns-in_err-placed-clause-source : goal.returns-in_err-placed-clause-source
returns-in_err-placed-clause-source g c = λ is.
    let p = err_from_is_err_and c.from_residual.result c.from_residual.ensures.1 in
    let source = handed_on c.from_residual.result p.0 (fault_of_reader c.in_err-placed.field-0.0) replay.Source p.1 p.2 is in
    absurd (no_source c.events.reader c.next_decided.new.self c.in_err-placed.field-0.0 c.in_err-placed.ensures.decides source)

pub events-preserved-in-Continue-branch-3 : goal.events-preserved-in-Continue-branch-3
events-preserved-in-Continue-branch-3 g c =
    let decides = rw c.in-Event.is at c.in_ok-placed.ensures.decides in
    let p = progress_decides g.A.Answerer.AsksFor g.A.Answerer.behavior (g.A.Answerer.state c.args.answerer.now) (g.A.Answerer.state c.events.answerer) c.events.reader c.next_decided.new.self (g.S.Source.left c.args.record_in.now)
    (g.S.Source.left c.events.record_in) (g.K.Sink.written c.args.out.now) (g.K.Sink.written c.events.out) c.events.answers
    (Ok (next.Event c.in-Event.placed)) c.events.invariant.progress decides in
    let moves = (rw c.in-Event.is at c.in_ok-placed.ensures.moves) tt in
    let answers = c.in_ok-answer_event-in-Event.ensures.answers in
    let uncounted = c.in_ok-answer_event-in-Event.ensures.uncounted (λ is. cc) in
    rw c.answer_event.ensures.reader (record {
      progress = progress_answers g.A.Answerer.AsksFor g.A.Answerer.behavior (g.A.Answerer.state c.args.answerer.now) (g.A.Answerer.state c.events.answerer) (g.A.Answerer.state c.answer_event.new.answerer) c.next_decided.new.self (g.S.Source.left c.args.record_in.now)
          (g.S.Source.left c.events.record_in) (g.K.Sink.written c.args.out.now) (g.K.Sink.written c.events.out) (g.K.Sink.written c.answer_event.new.out)
          c.in-Event.placed c.events.answers c.answer_event.new.answers p answers;
      within = omega (arith, moves.1, p.limit);
      ended = λ is. c.events.invariant.ended (sym decides.ended ∙ is);
      running = c.in_ok-answer_event-in-Event.ensures.running;
      source = c.events.invariant.source;
      sink = omega (arith, c.events.invariant.sink, c.answer_event.ensures.later);
      too_large = uncounted.0 ∙ c.events.invariant.too_large;
      large = uncounted.1 ∙ c.events.invariant.large;
    })

pub returns-in_err-answer_event-in-Event-clause-replays : goal.returns-in_err-answer_event-in-Event-clause-replays
returns-in_err-answer_event-in-Event-clause-replays g c =
    let decides = rw c.in-Event.is at c.in_ok-placed.ensures.decides in
    let p = progress_decides g.A.Answerer.AsksFor g.A.Answerer.behavior (g.A.Answerer.state c.args.answerer.now) (g.A.Answerer.state c.events.answerer) c.events.reader c.next_decided.new.self (g.S.Source.left c.args.record_in.now)
    (g.S.Source.left c.events.record_in) (g.K.Sink.written c.args.out.now) (g.K.Sink.written c.events.out) c.events.answers
    (Ok (next.Event c.in-Event.placed)) c.events.invariant.progress decides in
    let r = err_from_is_err_and c.from_residual-in_err-answer_event-in-Event.result c.from_residual-in_err-answer_event-in-Event.ensures.1 in
    rw (r.1, r.2) (replays_event g.A.Answerer.AsksFor g.A.Answerer.behavior (g.A.Answerer.state c.args.answerer.now) (g.A.Answerer.state c.events.answerer) (g.A.Answerer.state c.answer_event.new.answerer) c.next_decided.new.self (g.S.Source.left c.args.record_in.now)
    (g.S.Source.left c.events.record_in) (g.K.Sink.written c.args.out.now) (g.K.Sink.written c.events.out) (g.K.Sink.written c.answer_event.new.out)
    c.in-Event.placed c.events.answers c.answer_event.new.answers c.in_err-answer_event-in-Event.field-0.0 p
    (λ is. c.events.invariant.ended (sym decides.ended ∙ is)) c.in_err-answer_event-in-Event.ensures.answers)

pub events-preserved : goal.events-preserved
events-preserved g c =
    let decides = rw c.in-Undecided.is at c.in_ok-placed.ensures.decides in
    let p = progress_decides g.A.Answerer.AsksFor g.A.Answerer.behavior (g.A.Answerer.state c.args.answerer.now) (g.A.Answerer.state c.events.answerer) c.events.reader c.next_decided.new.self (g.S.Source.left c.args.record_in.now)
    (g.S.Source.left c.events.record_in) (g.K.Sink.written c.args.out.now) (g.K.Sink.written c.events.out) c.events.answers
    (Ok next.Undecided) c.events.invariant.progress decides in
    let undecided = c.in_ok-placed.ensures.undecided (ap Ok c.in-Undecided.is) in
    let within = c.in_ok-placed.ensures.within (ap Ok c.in-Undecided.is) in
    let fills = c.in_ok-read_more-in-Undecided.ensures.ok in
    let q = progress_fills g.A.Answerer.AsksFor g.A.Answerer.behavior (g.A.Answerer.state c.args.answerer.now) (g.A.Answerer.state c.events.answerer) c.next_decided.new.self c.read_more.new.reader (g.S.Source.left c.args.record_in.now)
    (g.S.Source.left c.events.record_in) (g.S.Source.left c.read_more.new.record_in) (g.K.Sink.written c.args.out.now) (g.K.Sink.written c.events.out)
    (g.K.Sink.written c.read_more.new.out) c.events.answers p undecided.0 undecided.1 c.in_ok-read_more-in-Undecided.ensures.written fills in
    record {
      progress = rw c.read_more.ensures.empty q;
      within = omega (arith, within, p.limit, fills.at);
      ended = λ is. (fills.ended is).1;
      running = c.events.invariant.running;
      source = omega (arith, c.events.invariant.source, c.read_more.ensures.source_later);
      sink = omega (arith, c.events.invariant.sink, c.read_more.ensures.later);
      too_large = c.events.invariant.too_large;
      large = c.events.invariant.large;
    }

pub returns-in_err-read_more-in-Undecided-clause-replays : goal.returns-in_err-read_more-in-Undecided-clause-replays
returns-in_err-read_more-in-Undecided-clause-replays g c =
    let decides = rw c.in-Undecided.is at c.in_ok-placed.ensures.decides in
    let p = progress_decides g.A.Answerer.AsksFor g.A.Answerer.behavior (g.A.Answerer.state c.args.answerer.now) (g.A.Answerer.state c.events.answerer) c.events.reader c.next_decided.new.self (g.S.Source.left c.args.record_in.now)
    (g.S.Source.left c.events.record_in) (g.K.Sink.written c.args.out.now) (g.K.Sink.written c.events.out) c.events.answers
    (Ok next.Undecided) c.events.invariant.progress decides in
    let r = err_from_is_err_and c.from_residual-in_err-read_more-in-Undecided.result c.from_residual-in_err-read_more-in-Undecided.ensures.1 in
    rw (r.1, r.2, c.read_more.ensures.empty) (replays_lost g.A.Answerer.AsksFor g.A.Answerer.behavior (g.A.Answerer.state c.args.answerer.now) (g.A.Answerer.state c.events.answerer) c.next_decided.new.self (g.S.Source.left c.args.record_in.now)
    (g.S.Source.left c.events.record_in) (g.K.Sink.written c.args.out.now) (g.K.Sink.written c.events.out) (g.K.Sink.written c.read_more.new.out)
    c.events.answers (Ok next.Undecided) p (λ is. c.events.invariant.ended (sym decides.ended ∙ is)) c.read_more.ensures.prefix
    c.in_err-read_more-in-Undecided.field-0.0 c.in_err-read_more-in-Undecided.ensures.kind)

pub returns-in_err-read_more-in-Undecided-clause-decided : goal.returns-in_err-read_more-in-Undecided-clause-decided
returns-in_err-read_more-in-Undecided-clause-decided g c = λ is.
    let decides = rw c.in-Undecided.is at c.in_ok-placed.ensures.decides in
    let p = progress_decides g.A.Answerer.AsksFor g.A.Answerer.behavior (g.A.Answerer.state c.args.answerer.now) (g.A.Answerer.state c.events.answerer) c.events.reader c.next_decided.new.self (g.S.Source.left c.args.record_in.now)
    (g.S.Source.left c.events.record_in) (g.K.Sink.written c.args.out.now) (g.K.Sink.written c.events.out) c.events.answers
    (Ok next.Undecided) c.events.invariant.progress decides in
    let undecided = c.in_ok-placed.ensures.undecided (ap Ok c.in-Undecided.is) in
    let r = err_from_is_err_and c.from_residual-in_err-read_more-in-Undecided.result c.from_residual-in_err-read_more-in-Undecided.ensures.1 in
    let source = handed_on c.from_residual-in_err-read_more-in-Undecided.result r.0 c.in_err-read_more-in-Undecided.field-0.0 replay.Source r.1 r.2 is in
    writes_decided g.A.Answerer.AsksFor g.A.Answerer.behavior (g.A.Answerer.state c.args.answerer.now) (g.A.Answerer.state c.events.answerer) c.next_decided.new.self (g.S.Source.left c.args.record_in.now) (g.S.Source.left c.events.record_in)
    (g.S.Source.left c.read_more.new.record_in) (g.K.Sink.written c.args.out.now) (g.K.Sink.written c.events.out) (g.K.Sink.written c.read_more.new.out)
    c.events.answers p undecided.0 undecided.1 c.in_err-read_more-in-Undecided.ensures.kept
    (c.in_err-read_more-in-Undecided.ensures.before_reading (ap Err source))

pub returns-in-End-clause-replays : goal.returns-in-End-clause-replays
returns-in-End-clause-replays g c =
    let decides = rw c.in-End.is at c.in_ok-placed.ensures.decides in
    let p = progress_decides g.A.Answerer.AsksFor g.A.Answerer.behavior (g.A.Answerer.state c.args.answerer.now) (g.A.Answerer.state c.events.answerer) c.events.reader c.next_decided.new.self
    (g.S.Source.left c.args.record_in.now) (g.S.Source.left c.events.record_in) (g.K.Sink.written c.args.out.now) (g.K.Sink.written c.events.out) c.events.answers
    (Ok next.End) c.events.invariant.progress decides in
    replays_end g.A.Answerer.AsksFor g.A.Answerer.behavior (g.A.Answerer.state c.args.answerer.now) (g.A.Answerer.state c.events.answerer) (g.A.Answerer.state c.end.new.self) c.next_decided.new.self
    (g.S.Source.left c.args.record_in.now) (g.S.Source.left c.events.record_in) (g.K.Sink.written c.args.out.now) (g.K.Sink.written c.events.out)
    c.events.answers c.end.new.answers p (λ is. c.events.invariant.ended (sym decides.ended ∙ is)) c.in_ok-end-in-End.ensures.ok c.in_ok-end-in-End.ensures.kept

pub returns-in_err-end-in-End-clause-replays : goal.returns-in_err-end-in-End-clause-replays
returns-in_err-end-in-End-clause-replays g c =
    let decides = rw c.in-End.is at c.in_ok-placed.ensures.decides in
    let p = progress_decides g.A.Answerer.AsksFor g.A.Answerer.behavior (g.A.Answerer.state c.args.answerer.now) (g.A.Answerer.state c.events.answerer) c.events.reader c.next_decided.new.self
    (g.S.Source.left c.args.record_in.now) (g.S.Source.left c.events.record_in) (g.K.Sink.written c.args.out.now) (g.K.Sink.written c.events.out) c.events.answers
    (Ok next.End) c.events.invariant.progress decides in
    let r = err_from_is_err_and c.from_residual-in_err-end-in-End.result c.from_residual-in_err-end-in-End.ensures.1 in
    rw (r.1, r.2, c.in_err-end-in-End.ensures.err) (replays_part g.A.Answerer.AsksFor (Answer (Ok next.End)) g.A.Answerer.behavior (g.A.Answerer.state c.args.answerer.now) (g.A.Answerer.state c.events.answerer)
    (g.A.Answerer.state c.end.new.self) c.next_decided.new.self (g.S.Source.left c.args.record_in.now) (g.S.Source.left c.events.record_in) (g.K.Sink.written c.args.out.now)
    (g.K.Sink.written c.events.out) c.events.answers p (λ is. c.events.invariant.ended (sym decides.ended ∙ is)) replay.NoMemory refl)

pub returns-in_err-end-in-End-clause-before_reading : goal.returns-in_err-end-in-End-clause-before_reading
returns-in_err-end-in-End-clause-before_reading g c = c.events.invariant.progress.before_reading

pub returns-in_err-placed-clause-too_large : goal.returns-in_err-placed-clause-too_large
returns-in_err-placed-clause-too_large g c = λ is.
    let p = err_from_is_err_and c.from_residual.result c.from_residual.ensures.1 in
    let large = handed_on c.from_residual.result p.0 (fault_of_reader c.in_err-placed.field-0.0) replay.TooLarge p.1 p.2 is in
    absurd (reader_not_large c.in_err-placed.field-0.0 large)

pub returns-in_err-answer_event-in-Event-clause-too_large : goal.returns-in_err-answer_event-in-Event-clause-too_large
returns-in_err-answer_event-in-Event-clause-too_large g c = λ is.
    let decides = rw c.in-Event.is at c.in_ok-placed.ensures.decides in
    let p = progress_decides g.A.Answerer.AsksFor g.A.Answerer.behavior (g.A.Answerer.state c.args.answerer.now) (g.A.Answerer.state c.events.answerer) c.events.reader c.next_decided.new.self (g.S.Source.left c.args.record_in.now)
    (g.S.Source.left c.events.record_in) (g.K.Sink.written c.args.out.now) (g.K.Sink.written c.events.out) c.events.answers
    (Ok (next.Event c.in-Event.placed)) c.events.invariant.progress decides in
    let r = err_from_is_err_and c.from_residual-in_err-answer_event-in-Event.result c.from_residual-in_err-answer_event-in-Event.ensures.1 in
    let large = handed_on c.from_residual-in_err-answer_event-in-Event.result r.0 c.in_err-answer_event-in-Event.field-0.0 replay.TooLarge r.1 r.2 is in
    let there = c.in_err-answer_event-in-Event.ensures.too_large (ap Err large) in (
      subst (λ count. Rose count (g.M.ReMaker.state c.answer_event.new.maker).too_large) c.events.invariant.too_large there.0,
      replays_asks g.A.Answerer.AsksFor g.A.Answerer.behavior (g.A.Answerer.state c.args.answerer.now) (g.A.Answerer.state c.events.answerer) (g.A.Answerer.state c.answer_event.new.answerer) c.next_decided.new.self (g.S.Source.left c.args.record_in.now)
          (g.S.Source.left c.events.record_in) (g.K.Sink.written c.args.out.now) (g.K.Sink.written c.events.out) (g.K.Sink.written c.answer_event.new.out)
          c.in-Event.placed c.events.answers c.answer_event.new.answers c.in_err-answer_event-in-Event.field-0.0
          (g.M.ReMaker.state c.answer_event.new.maker).large p (λ is. c.events.invariant.ended (sym decides.ended ∙ is)) large
          c.in_err-answer_event-in-Event.ensures.answers there.1,
    )

pub returns-in_err-answer_event-in-Event-clause-uncounted : goal.returns-in_err-answer_event-in-Event-clause-uncounted
returns-in_err-answer_event-in-Event-clause-uncounted g c = λ not_large.
    let r = err_from_is_err_and c.from_residual-in_err-answer_event-in-Event.result c.from_residual-in_err-answer_event-in-Event.ensures.1 in
    let uncounted = c.in_err-answer_event-in-Event.ensures.uncounted
    (λ is. not_large (handed_back c.from_residual-in_err-answer_event-in-Event.result r.0 c.in_err-answer_event-in-Event.field-0.0 replay.TooLarge r.1 r.2 is)) in
    (uncounted.0 ∙ c.events.invariant.too_large, uncounted.1 ∙ c.events.invariant.large)

pub returns-in_err-read_more-in-Undecided-clause-too_large : goal.returns-in_err-read_more-in-Undecided-clause-too_large
returns-in_err-read_more-in-Undecided-clause-too_large g c = λ is.
    let r = err_from_is_err_and c.from_residual-in_err-read_more-in-Undecided.result c.from_residual-in_err-read_more-in-Undecided.ensures.1 in
    let large = handed_on c.from_residual-in_err-read_more-in-Undecided.result r.0 c.in_err-read_more-in-Undecided.field-0.0 replay.TooLarge r.1 r.2 is in
    absurd (failure_not_large c.in_err-read_more-in-Undecided.field-0.0 c.in_err-read_more-in-Undecided.ensures.kind large)

pub returns-in_err-placed-clause-before_reading : goal.returns-in_err-placed-clause-before_reading
returns-in_err-placed-clause-before_reading g c = c.events.invariant.progress.before_reading

pub returns-in_err-answer_event-in-Event-clause-before_reading : goal.returns-in_err-answer_event-in-Event-clause-before_reading
returns-in_err-answer_event-in-Event-clause-before_reading g c =
    event_writes g.A.Answerer.behavior (g.A.Answerer.state c.args.answerer.now) (g.A.Answerer.state c.events.answerer) (g.A.Answerer.state c.answer_event.new.answerer) c.in-Event.placed
    (g.S.Source.log c.args.record_in.now) (g.S.Source.log c.events.record_in) (g.K.Sink.written c.args.out.now) (g.K.Sink.written c.events.out)
    (g.K.Sink.written c.answer_event.new.out) c.events.answers c.answer_event.new.answers c.in_err-answer_event-in-Event.field-0.0
    c.in_err-answer_event-in-Event.ensures.answers c.events.invariant.progress.before_reading

pub returns-in_err-read_more-in-Undecided-clause-before_reading : goal.returns-in_err-read_more-in-Undecided-clause-before_reading
returns-in_err-read_more-in-Undecided-clause-before_reading g c =
    let decides = rw c.in-Undecided.is at c.in_ok-placed.ensures.decides in
    let p = progress_decides g.A.Answerer.AsksFor g.A.Answerer.behavior (g.A.Answerer.state c.args.answerer.now) (g.A.Answerer.state c.events.answerer) c.events.reader c.next_decided.new.self (g.S.Source.left c.args.record_in.now)
    (g.S.Source.left c.events.record_in) (g.K.Sink.written c.args.out.now) (g.K.Sink.written c.events.out) c.events.answers
    (Ok next.Undecided) c.events.invariant.progress decides in
    let undecided = c.in_ok-placed.ensures.undecided (ap Ok c.in-Undecided.is) in
    before_failure g.A.Answerer.AsksFor g.A.Answerer.behavior (g.A.Answerer.state c.args.answerer.now) (g.A.Answerer.state c.events.answerer) c.next_decided.new.self (g.S.Source.left c.args.record_in.now) (g.S.Source.left c.events.record_in)
    (g.S.Source.log c.args.record_in.now) (g.S.Source.log c.events.record_in) (g.S.Source.log c.read_more.new.record_in)
    (g.K.Sink.written c.args.out.now) (g.K.Sink.written c.events.out) (g.K.Sink.written c.read_more.new.out)
    c.events.answers p undecided.0 undecided.1 c.in_err-read_more-in-Undecided.field-0.0 c.in_err-read_more-in-Undecided.ensures.log
    (λ source. c.in_err-read_more-in-Undecided.ensures.before_reading (ap Err source)) c.read_more.ensures.prefix

pub returns-in-End-clause-before_reading : goal.returns-in-End-clause-before_reading
returns-in-End-clause-before_reading g c = c.events.invariant.progress.before_reading
