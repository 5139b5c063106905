use Rattle.std.proofs.Common.{◌<◌, ◌∙◌, Err, inl, inr, ap, arith, refl}
use Rattle.hx_diff.proofs.EndLemmas.{completed_without, ends_as, of_fault}
use Rattle.hx_diff.proofs.FilesLemmas.{finished_files}
use Rattle.hx_diff.proofs.RunLemmas.{asked_not_none, before_finished, source_moved}
use Rattle.hx_diff.proofs.StatusLemmas.{headline, completed_has, completed_small, completed_statuses, ran_completed, finished_status, ran_finished, finished_by, finished_line, is_config_refused, is_outside, is_large, large_line, sink_rose, small_status, complete}
use Rattle.hx_diff.proofs.run.run_diff.Goals as goal

pub returns-in_default-clause-status : goal.returns-in_default-clause-status
returns-in_default-clause-status g c = (2, omega arith, refl)

pub returns-in-Ok-clause-status : goal.returns-in-Ok-clause-status
returns-in-Ok-clause-status g c = rw c.completed_status.ensures (completed_statuses c.in-Ok.differs)

pub returns-in-Ok-clause-headline : goal.returns-in-Ok-clause-headline
returns-in-Ok-clause-headline g c = rw (← c.in-Some.ensures, c.completed_status.ensures) (λ done. headline _ _ _ c.in-Ok.differs c.in-Ok.ensures.attempted)

pub returns-in-Ok-clause-ran : goal.returns-in-Ok-clause-ran
returns-in-Ok-clause-ran g c = rw (← c.in-Some.ensures, c.completed_status.ensures) (ran_completed _ _ _ c.in-Ok.differs c.in-Ok.ensures.attempted)

pub returns-in-Ok-clause-at_end : goal.returns-in-Ok-clause-at_end
returns-in-Ok-clause-at_end g c = λ done. c.in-Ok.ensures.at_end

pub returns-in-Ok-clause-before_reading : goal.returns-in-Ok-clause-before_reading
returns-in-Ok-clause-before_reading g c = rw (← c.in-Some.ensures) c.in-Ok.ensures.before_reading

pub returns-in-Ok-clause-complete : goal.returns-in-Ok-clause-complete
returns-in-Ok-clause-complete g c = rw (← c.in-Some.ensures, c.completed_status.ensures) (λ files source sink large.
    inr (completed_has _ (g.K.Sink.written c.args.out.now) (g.K.Sink.written c.attempt.new.out) c.in-Ok.differs
    (ran_completed _ (g.K.Sink.written c.args.out.now) (g.K.Sink.written c.attempt.new.out) c.in-Ok.differs c.in-Ok.ensures.attempted)))

pub returns-in-Ok-clause-named : goal.returns-in-Ok-clause-named
returns-in-Ok-clause-named g c = rw (← c.in-Some.ensures) c.in-Ok.ensures.named

pub returns-in-Ok-clause-usage : goal.returns-in-Ok-clause-usage
returns-in-Ok-clause-usage g c = (
  λ two. absurd (omega (arith, two, c.completed_status.ensures, completed_small c.in-Ok.differs)),
  λ none. absurd (asked_not_none _ _ c.in-Some.ensures none),
)

pub returns-in-Ok-clause-untouched : goal.returns-in-Ok-clause-untouched
returns-in-Ok-clause-untouched g c = λ two. absurd (omega (arith, two, c.completed_status.ensures, completed_small c.in-Ok.differs))

pub returns-in-Ok-clause-config_refused : goal.returns-in-Ok-clause-config_refused
returns-in-Ok-clause-config_refused g c = λ three. absurd (omega (arith, three, c.completed_status.ensures, completed_small c.in-Ok.differs))

pub returns-in-Ok-clause-outside : goal.returns-in-Ok-clause-outside
returns-in-Ok-clause-outside g c = λ five. absurd (omega (arith, five, c.completed_status.ensures, completed_small c.in-Ok.differs))

pub returns-in-Ok-clause-sink : goal.returns-in-Ok-clause-sink
returns-in-Ok-clause-sink g c = λ six. absurd (omega (arith, six, c.completed_status.ensures, completed_small c.in-Ok.differs))

pub returns-in-Ok-clause-too_large : goal.returns-in-Ok-clause-too_large
returns-in-Ok-clause-too_large g c = λ eight. absurd (omega (arith, eight, c.completed_status.ensures, completed_small c.in-Ok.differs))

pub returns-in-Err-clause-headline : goal.returns-in-Err-clause-headline
returns-in-Err-clause-headline g c = λ done. absurd (small_status c.finish.result done c.finish.ensures.large)

pub returns-in-Err-clause-at_end : goal.returns-in-Err-clause-at_end
returns-in-Err-clause-at_end g c = λ done. absurd (small_status c.finish.result done c.finish.ensures.large)

pub returns-in-Err-clause-status : goal.returns-in-Err-clause-status
returns-in-Err-clause-status g c =
    finished_status c.in-Err.fault (g.K.Sink.written c.attempt.new.out) (g.K.Sink.written c.finish.new.out) c.finish.result c.finish.ensures.finished

pub returns-in-Err-clause-ran : goal.returns-in-Err-clause-ran
returns-in-Err-clause-ran g c = rw (← c.in-Some.ensures)
    (ran_finished _ (g.K.Sink.written c.args.out.now) (g.K.Sink.written c.attempt.new.out) (g.K.Sink.written c.finish.new.out) c.in-Err.fault c.finish.result
    c.in-Err.ensures.attempted c.finish.ensures.finished)

pub returns-in-Err-clause-config_refused : goal.returns-in-Err-clause-config_refused
returns-in-Err-clause-config_refused g c = λ three.
    let small : c.finish.result < 6 = omega (arith, three) in
    let (side, line, code, is) = is_config_refused c.in-Err.fault
    (finished_by c.in-Err.fault (g.K.Sink.written c.attempt.new.out) (g.K.Sink.written c.finish.new.out) c.finish.result c.finish.ensures.finished small ∙ three) in
    c.in-Err.ensures.config_refused side line code (ap Err is)

pub returns-in-Err-clause-outside : goal.returns-in-Err-clause-outside
returns-in-Err-clause-outside g c = rw (← c.in-Some.ensures) (λ five.
    let small : c.finish.result < 6 = omega (arith, five) in
    let fault = finished_by c.in-Err.fault (g.K.Sink.written c.attempt.new.out) (g.K.Sink.written c.finish.new.out) c.finish.result c.finish.ensures.finished small ∙ five in
    let line = finished_line c.in-Err.fault (g.K.Sink.written c.attempt.new.out) (g.K.Sink.written c.finish.new.out) c.finish.result c.finish.ensures.finished small in
    elim (is_outside c.in-Err.fault fault) [
      | inl files ↦
          let (rose, last, stays) = c.in-Err.ensures.files_failed (ap Err files) in
          inl (rose, last, rw stays at (rw files at line))
      | inr source ↦
          let (rose, fails) = c.in-Err.ensures.source_failed (ap Err source) in
          inr (
            rose,
            source_moved _ (g.S.Source.left c.attempt.new.record_in) (g.K.Sink.written c.args.out.now) (g.K.Sink.written c.attempt.new.out) (g.K.Sink.written c.finish.new.out) fails (rw source at line),
          )
    ])

pub returns-in-Err-clause-sink : goal.returns-in-Err-clause-sink
returns-in-Err-clause-sink g c = λ six.
    sink_rose c.in-Err.fault c.finish.result (g.K.Sink.faults c.args.out.now) (g.K.Sink.faults c.attempt.new.out) (g.K.Sink.faults c.finish.new.out) six
    (λ is. c.in-Err.ensures.sink_failed (ap Err is)) c.finish.ensures.sink c.in-Err.ensures.later c.finish.ensures.later

pub returns-in-Err-clause-too_large : goal.returns-in-Err-clause-too_large
returns-in-Err-clause-too_large g c = rw (← c.in-Some.ensures) (λ eight.
    let fault = is_large c.in-Err.fault (g.K.Sink.written c.attempt.new.out) (g.K.Sink.written c.finish.new.out) c.finish.result c.finish.ensures.finished eight in
    let (rose, last) = c.in-Err.ensures.too_large (ap Err fault) in (
      rose,
      elim last [
        | inl judged ↦ inl (
          judged.0,
          rw judged.1 at (large_line c.in-Err.fault (g.K.Sink.written c.attempt.new.out) (g.K.Sink.written c.finish.new.out) c.finish.result c.finish.ensures.finished eight),
        )
        | inr asks ↦ inr asks
      ],
    ))

pub returns-in-Err-clause-complete : goal.returns-in-Err-clause-complete
returns-in-Err-clause-complete g c = rw (← c.in-Some.ensures) (λ files source sink large.
    complete _ (g.K.Sink.written c.args.out.now) (g.K.Sink.written c.finish.new.out) c.finish.result (returns-in-Err-clause-status g c)
    c.finish.ensures.large
    (λ five. elim (rw (← c.in-Some.ensures) at (returns-in-Err-clause-outside g c five)) [ inl failed ↦ files failed.0 | inr failed ↦ source failed.0 ])
    (λ six. sink (returns-in-Err-clause-sink g c six))
    (λ eight. large (c.in-Err.ensures.too_large (ap Err
    (is_large c.in-Err.fault (g.K.Sink.written c.attempt.new.out) (g.K.Sink.written c.finish.new.out) c.finish.result c.finish.ensures.finished eight))).0)
    (rw (← c.in-Some.ensures) at (returns-in-Err-clause-ran g c)))

pub returns-in-Err-clause-named : goal.returns-in-Err-clause-named
returns-in-Err-clause-named g c = rw (← c.in-Some.ensures) c.in-Err.ensures.named

pub returns-in-Err-clause-before_reading : goal.returns-in-Err-clause-before_reading
returns-in-Err-clause-before_reading g c = rw (← c.in-Some.ensures)
    (before_finished _ (g.S.Source.log c.args.record_in.now) (g.S.Source.log c.attempt.new.record_in) (g.K.Sink.written c.args.out.now)
    (g.K.Sink.written c.attempt.new.out) (g.K.Sink.written c.finish.new.out) c.in-Err.fault c.finish.result c.in-Err.ensures.before_reading
    c.finish.ensures.finished)

pub returns-in-Ok-clause-files_read : goal.returns-in-Ok-clause-files_read
returns-in-Ok-clause-files_read g c = rw (← c.in-Some.ensures, c.completed_status.ensures) c.in-Ok.ensures.files_read

pub returns-in-Err-clause-files_read : goal.returns-in-Err-clause-files_read
returns-in-Err-clause-files_read g c = rw (← c.in-Some.ensures)
    (finished_files _ (g.F.Files.last c.attempt.new.files) c.in-Err.fault (g.K.Sink.written c.attempt.new.out) (g.K.Sink.written c.finish.new.out) c.finish.result
    (g.F.Files.log c.args.files.now) (g.F.Files.log c.attempt.new.files) c.finish.ensures.finished c.in-Err.ensures.files_read)

pub returns-in-Err-clause-told : goal.returns-in-Err-clause-told
returns-in-Err-clause-told g c = rw (← c.in-Some.ensures)
    (ends_as _ (g.K.Sink.written c.args.out.now) (g.K.Sink.written c.attempt.new.out) c.in-Err.fault c.in-Err.ensures.attempted)

pub returns-in-Err-clause-fault_status : goal.returns-in-Err-clause-fault_status
returns-in-Err-clause-fault_status g c =
    of_fault c.in-Err.fault (g.K.Sink.written c.attempt.new.out) (g.K.Sink.written c.finish.new.out) c.finish.result c.finish.ensures.finished

pub returns-in_default-clause-no_fault : goal.returns-in_default-clause-no_fault
returns-in_default-clause-no_fault g c = λ none. (2, omega arith, refl)

pub returns-in-Ok-clause-no_fault : goal.returns-in-Ok-clause-no_fault
returns-in-Ok-clause-no_fault g c = λ none. rw c.completed_status.ensures (completed_without c.in-Ok.differs)

pub returns-in-Err-clause-file_fault : goal.returns-in-Err-clause-file_fault
returns-in-Err-clause-file_fault g c = λ is. (c.in-Err.ensures.files_failed (cc is)).0

pub returns-in-Err-clause-record_fault : goal.returns-in-Err-clause-record_fault
returns-in-Err-clause-record_fault g c = λ is. (c.in-Err.ensures.source_failed (cc is)).0
