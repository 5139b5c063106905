use Rattle.std.proofs.Common.{Err, inl, ap, refl}
use Rattle.hx_diff.specs.Command.{asked_of}
use Rattle.hx_diff.specs.Run.{setting}
use Rattle.hx_diff.specs.RunFault.{load_fault}
use Rattle.hx_diff.specs.declared.run_fault.RunFault.TheVariants as run
use Rattle.hx_diff.specs.declared.run_fault.Side.TheVariants as sides
use Rattle.hx_diff.proofs.FilesLemmas.{files_of_both, files_of_old}
use Rattle.hx_diff.proofs.RunLemmas.{both_named, load_failed, load_large, load_sink, load_source, nothing_read, old_named, old_reads, old_unloaded, rose_from, rose_later, same_fault}
use Rattle.hx_diff.proofs.run.attempt.Goals as goal

pub attempt_new-requires-clause-accepted : goal.attempt_new-requires-clause-accepted
attempt_new-requires-clause-accepted g c = rw c.load_config.ensures.held c.in-Ok.ensures.loads

pub returns-in-Ok-clause-attempted : goal.returns-in-Ok-clause-attempted
returns-in-Ok-clause-attempted g c = rw c.load_config.ensures.held at c.attempt_new.ensures.attempted

pub returns-in-Ok-clause-before_reading : goal.returns-in-Ok-clause-before_reading
returns-in-Ok-clause-before_reading g c = rw c.load_config.ensures.held at c.attempt_new.ensures.before_reading

pub returns-in-Ok-clause-source_failed : goal.returns-in-Ok-clause-source_failed
returns-in-Ok-clause-source_failed g c = rw c.load_config.ensures.held at c.attempt_new.ensures.source_failed

pub returns-in-Ok-clause-files_failed : goal.returns-in-Ok-clause-files_failed
returns-in-Ok-clause-files_failed g c = λ is.
    let (rose, reads, stays) = (rw c.load_config.ensures.held at c.attempt_new.ensures.files_failed) is in (
      rose_later (g.F.Files.faults c.args.files.now) (g.F.Files.faults c.load_config.new.files) (g.F.Files.faults c.attempt_new.new.files)
          c.in-Ok.ensures.later rose,
      reads,
      stays,
    )

pub returns-in-Ok-clause-too_large : goal.returns-in-Ok-clause-too_large
returns-in-Ok-clause-too_large g c = λ is.
    let (rose, last) = (rw c.load_config.ensures.held at c.attempt_new.ensures.too_large) is in (
      rose_from (g.M.ReMaker.state c.args.maker.now).too_large (g.M.ReMaker.state c.load_config.new.maker).too_large (g.M.ReMaker.state c.attempt_new.new.maker).too_large
          (c.in-Ok.ensures.uncounted (λ is. cc)).0 rose,
      last,
    )

pub returns-in-Ok-clause-named : goal.returns-in-Ok-clause-named
returns-in-Ok-clause-named g c =
    both_named (setting c.args.env.now (g.F.Files.held c.args.files.now) (asked_of c.args.command) (g.S.Source.left c.args.record_in.now))
    (g.F.Files.last c.args.files.now) (g.F.Files.last c.load_config.new.files) (g.F.Files.last c.attempt_new.new.files) c.in-Ok.ensures.named
    (rw c.load_config.ensures.held at c.attempt_new.ensures.named)

pub returns-in-Err-clause-attempted : goal.returns-in-Err-clause-attempted
returns-in-Err-clause-attempted g c =
    rw c.of_load.ensures (old_unloaded (setting c.args.env.now (g.F.Files.held c.args.files.now) (asked_of c.args.command) (g.S.Source.left c.args.record_in.now))
    (g.K.Sink.written c.args.out.now) c.in-Err.fault c.in-Err.ensures.loads)

pub returns-in-Err-clause-before_reading : goal.returns-in-Err-clause-before_reading
returns-in-Err-clause-before_reading g c =
    nothing_read (setting c.args.env.now (g.F.Files.held c.args.files.now) (asked_of c.args.command) (g.S.Source.left c.args.record_in.now))
    (g.S.Source.log c.args.record_in.now) (g.K.Sink.written c.args.out.now) (g.K.Sink.written c.args.out.now)

pub returns-in-Err-clause-files_failed : goal.returns-in-Err-clause-files_failed
returns-in-Err-clause-files_failed g c = λ is.
    let same = same_fault (load_fault sides.Old c.in-Err.fault) run.Files (rw c.of_load.ensures at is) in
    let (rose, reads) = c.in-Err.ensures.failed (ap Err (load_failed sides.Old c.in-Err.fault same)) in (
      rose,
      old_reads (setting c.args.env.now (g.F.Files.held c.args.files.now) (asked_of c.args.command) (g.S.Source.left c.args.record_in.now))
          (g.F.Files.last c.load_config.new.files) reads,
      refl,
    )

pub returns-in-Err-clause-source_failed : goal.returns-in-Err-clause-source_failed
returns-in-Err-clause-source_failed g c = λ is.
    absurd (load_source sides.Old c.in-Err.fault (same_fault (load_fault sides.Old c.in-Err.fault) run.Source (rw c.of_load.ensures at is)))

pub returns-in-Err-clause-sink_failed : goal.returns-in-Err-clause-sink_failed
returns-in-Err-clause-sink_failed g c = λ is.
    absurd (load_sink sides.Old c.in-Err.fault (same_fault (load_fault sides.Old c.in-Err.fault) run.Sink (rw c.of_load.ensures at is)))

pub returns-in-Err-clause-too_large : goal.returns-in-Err-clause-too_large
returns-in-Err-clause-too_large g c = λ is.
    let same = same_fault (load_fault sides.Old c.in-Err.fault) run.TooLarge (rw c.of_load.ensures at is) in
    let (rose, judged) = c.in-Err.ensures.too_large (ap Err (load_large sides.Old c.in-Err.fault same)) in (rose, inl (inl judged, refl))

pub returns-in-Err-clause-named : goal.returns-in-Err-clause-named
returns-in-Err-clause-named g c =
    old_named (setting c.args.env.now (g.F.Files.held c.args.files.now) (asked_of c.args.command) (g.S.Source.left c.args.record_in.now))
    (g.F.Files.last c.args.files.now) (g.F.Files.last c.load_config.new.files) c.in-Err.ensures.named

pub returns-in-Ok-clause-files_read : goal.returns-in-Ok-clause-files_read
returns-in-Ok-clause-files_read g c =
    files_of_both (setting c.args.env.now (g.F.Files.held c.args.files.now) (asked_of c.args.command) (g.S.Source.left c.args.record_in.now)) c.in-Ok.old
    c.attempt_new.result (g.F.Files.last c.load_config.new.files) (g.F.Files.last c.attempt_new.new.files)
    (g.F.Files.log c.args.files.now) (g.F.Files.log c.load_config.new.files) (g.F.Files.log c.attempt_new.new.files)
    c.in-Ok.ensures.files_read (rw c.load_config.ensures.held at c.attempt_new.ensures.files_read)

pub returns-in-Err-clause-files_read : goal.returns-in-Err-clause-files_read
returns-in-Err-clause-files_read g c =
    rw c.of_load.ensures (files_of_old (setting c.args.env.now (g.F.Files.held c.args.files.now) (asked_of c.args.command) (g.S.Source.left c.args.record_in.now)) sides.Old
    c.in-Err.fault (g.F.Files.last c.load_config.new.files) (g.F.Files.log c.args.files.now) (g.F.Files.log c.load_config.new.files) c.in-Err.ensures.files_read)
