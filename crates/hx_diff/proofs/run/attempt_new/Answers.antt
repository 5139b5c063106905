use Rattle.std.proofs.Common.{Err, inl, inr, ap, refl}
use Rattle.hx_diff.specs.Command.{asked_of}
use Rattle.hx_replay.specs.Replay.{ReplayAsksLast, WritesDecided}
use Rattle.hx_diff.specs.Comparison.{ComparisonAsksFor, comparison_behavior, initial_comparison}
use Rattle.hx_diff.specs.Run.{setting}
use Rattle.hx_diff.specs.RunFault.{load_fault}
use Rattle.hx_diff.specs.declared.run_fault.RunFault.TheVariants as run
use Rattle.hx_diff.specs.declared.run_fault.Side.TheVariants as sides
use Rattle.hx_diff.proofs.FilesLemmas.{files_of_new, files_of_replay}
use Rattle.hx_diff.proofs.RunLemmas.{accept_some, answers_before, compared, load_failed, load_large, load_sink, load_source, new_named, new_reads, new_unloaded, no_config, no_files, nothing_read, rose_from, same_fault}
use Rattle.hx_diff.proofs.run.attempt_new.Goals as goal

pub returns-in-Ok-clause-attempted : goal.returns-in-Ok-clause-attempted
returns-in-Ok-clause-attempted g c =
    compared (setting c.args.env.now (g.F.Files.held c.args.files.now) (asked_of c.args.command) (g.S.Source.left c.args.record_in.now)) c.args.old c.in-Ok.new
    (g.K.Sink.written c.args.out.now) (g.K.Sink.written c.compare.new.out) c.compare.result c.requires.accepted c.in-Ok.ensures.loads c.compare.ensures.replays

pub returns-in-Ok-clause-before_reading : goal.returns-in-Ok-clause-before_reading
returns-in-Ok-clause-before_reading g c =
    answers_before (setting c.args.env.now (g.F.Files.held c.args.files.now) (asked_of c.args.command) (g.S.Source.left c.args.record_in.now)) c.args.old c.in-Ok.new
    (g.S.Source.log c.args.record_in.now) (g.S.Source.log c.compare.new.record_in) (g.K.Sink.written c.args.out.now) (g.K.Sink.written c.compare.new.out)
    c.requires.accepted c.in-Ok.ensures.loads c.compare.ensures.before_reading

pub returns-in-Ok-clause-config_refused : goal.returns-in-Ok-clause-config_refused
returns-in-Ok-clause-config_refused g c = λ side line code is. absurd (no_config c.compare.result side line code c.compare.ensures.kind is)

pub returns-in-Ok-clause-files_failed : goal.returns-in-Ok-clause-files_failed
returns-in-Ok-clause-files_failed g c = λ is. absurd (no_files c.compare.result c.compare.ensures.kind is)

pub returns-in-Ok-clause-source_failed : goal.returns-in-Ok-clause-source_failed
returns-in-Ok-clause-source_failed g c = λ is. (
  c.compare.ensures.source is,
  accept_some (setting c.args.env.now (g.F.Files.held c.args.files.now) (asked_of c.args.command) (g.S.Source.left c.args.record_in.now)) c.args.old c.in-Ok.new
      (λ programs. WritesDecided comparison_behavior (initial_comparison programs) (g.S.Source.left c.args.record_in.now) (g.S.Source.left c.compare.new.record_in) (g.K.Sink.written c.args.out.now)
      (g.K.Sink.written c.compare.new.out)) c.requires.accepted c.in-Ok.ensures.loads (c.compare.ensures.decided is),
)

pub returns-in-Ok-clause-too_large : goal.returns-in-Ok-clause-too_large
returns-in-Ok-clause-too_large g c = λ is.
    let (rose, asks) = c.compare.ensures.too_large is in (
      rose_from (g.M.ReMaker.state c.args.maker.now).too_large (g.M.ReMaker.state c.load_config.new.maker).too_large (g.M.ReMaker.state c.compare.new.maker).too_large
          (c.in-Ok.ensures.uncounted (λ is. cc)).0 rose,
      inr (accept_some (setting c.args.env.now (g.F.Files.held c.args.files.now) (asked_of c.args.command) (g.S.Source.left c.args.record_in.now)) c.args.old c.in-Ok.new
          (λ programs. ReplayAsksLast comparison_behavior ComparisonAsksFor (initial_comparison programs) (g.S.Source.left c.args.record_in.now) (g.M.ReMaker.state c.compare.new.maker).large)
          c.requires.accepted c.in-Ok.ensures.loads asks),
    )

pub returns-in-Ok-clause-named : goal.returns-in-Ok-clause-named
returns-in-Ok-clause-named g c =
    new_named (setting c.args.env.now (g.F.Files.held c.args.files.now) (asked_of c.args.command) (g.S.Source.left c.args.record_in.now))
    (g.F.Files.last c.args.files.now) (g.F.Files.last c.load_config.new.files) c.in-Ok.ensures.named

pub returns-in-Err-clause-attempted : goal.returns-in-Err-clause-attempted
returns-in-Err-clause-attempted g c =
    rw c.of_load.ensures (new_unloaded (setting c.args.env.now (g.F.Files.held c.args.files.now) (asked_of c.args.command) (g.S.Source.left c.args.record_in.now)) c.args.old
    (g.K.Sink.written c.args.out.now) c.in-Err.fault c.requires.accepted c.in-Err.ensures.loads)

pub returns-in-Err-clause-before_reading : goal.returns-in-Err-clause-before_reading
returns-in-Err-clause-before_reading g c =
    nothing_read (setting c.args.env.now (g.F.Files.held c.args.files.now) (asked_of c.args.command) (g.S.Source.left c.args.record_in.now))
    (g.S.Source.log c.args.record_in.now) (g.K.Sink.written c.args.out.now) (g.K.Sink.written c.args.out.now)

pub returns-in-Err-clause-files_failed : goal.returns-in-Err-clause-files_failed
returns-in-Err-clause-files_failed g c = λ is.
    let same = same_fault (load_fault sides.New c.in-Err.fault) run.Files (rw c.of_load.ensures at is) in
    let (rose, reads) = c.in-Err.ensures.failed (ap Err (load_failed sides.New c.in-Err.fault same)) in (
      rose,
      new_reads (setting c.args.env.now (g.F.Files.held c.args.files.now) (asked_of c.args.command) (g.S.Source.left c.args.record_in.now))
          (g.F.Files.last c.load_config.new.files) reads,
      refl,
    )

pub returns-in-Err-clause-source_failed : goal.returns-in-Err-clause-source_failed
returns-in-Err-clause-source_failed g c = λ is.
    absurd (load_source sides.New c.in-Err.fault (same_fault (load_fault sides.New c.in-Err.fault) run.Source (rw c.of_load.ensures at is)))

pub returns-in-Err-clause-sink_failed : goal.returns-in-Err-clause-sink_failed
returns-in-Err-clause-sink_failed g c = λ is.
    absurd (load_sink sides.New c.in-Err.fault (same_fault (load_fault sides.New c.in-Err.fault) run.Sink (rw c.of_load.ensures at is)))

pub returns-in-Err-clause-too_large : goal.returns-in-Err-clause-too_large
returns-in-Err-clause-too_large g c = λ is.
    let same = same_fault (load_fault sides.New c.in-Err.fault) run.TooLarge (rw c.of_load.ensures at is) in
    let (rose, judged) = c.in-Err.ensures.too_large (ap Err (load_large sides.New c.in-Err.fault same)) in (rose, inl (inr judged, refl))

pub returns-in-Err-clause-named : goal.returns-in-Err-clause-named
returns-in-Err-clause-named g c =
    new_named (setting c.args.env.now (g.F.Files.held c.args.files.now) (asked_of c.args.command) (g.S.Source.left c.args.record_in.now))
    (g.F.Files.last c.args.files.now) (g.F.Files.last c.load_config.new.files) c.in-Err.ensures.named

pub returns-in-Ok-clause-files_read : goal.returns-in-Ok-clause-files_read
returns-in-Ok-clause-files_read g c =
    files_of_replay (setting c.args.env.now (g.F.Files.held c.args.files.now) (asked_of c.args.command) (g.S.Source.left c.args.record_in.now)) c.in-Ok.new
    c.compare.result (g.F.Files.last c.load_config.new.files) (g.F.Files.log c.args.files.now) (g.F.Files.log c.load_config.new.files)
    c.compare.ensures.kind c.in-Ok.ensures.files_read

pub returns-in-Err-clause-files_read : goal.returns-in-Err-clause-files_read
returns-in-Err-clause-files_read g c =
    rw c.of_load.ensures (files_of_new (setting c.args.env.now (g.F.Files.held c.args.files.now) (asked_of c.args.command) (g.S.Source.left c.args.record_in.now)) sides.New
    c.in-Err.fault (g.F.Files.last c.load_config.new.files) (g.F.Files.log c.args.files.now) (g.F.Files.log c.load_config.new.files) c.in-Err.ensures.files_read)
