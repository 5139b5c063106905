use Rattle.std.proofs.Common.{◌≡◌, Err, inl, inr, ap, refl, arith}
use Rattle.std.proofs.lemmas.Result.{err_from_is_err_and}
use Rattle.hx_replay.proofs.ConfigFileLemmas.{files_loaded}
use Rattle.hx_run.specs.Command.{asked_of}
use Rattle.hx_run.specs.Run.{config_of, setting}
use Rattle.hx_run.specs.RunFault.{fault_status, load_fault, sink_fault}
use Rattle.hx_run.specs.RunFiles.{result_status}
use Rattle.hx_run.specs.declared.run_fault.RunFault.TheVariants as run
use Rattle.hx_run.proofs.RunLemmas.{answers_before, check_failed, checked_run, load_failed, load_large, no_config, no_config_at_sink, no_files, nothing_read, only_sink, replayed_run, run_asks, source_fails, unchecked_run, unloaded}
use Rattle.hx_run.proofs.FilesLemmas.{files_of_unloaded, no_refusal, no_refusal_at_sink}
use Rattle.hx_run.proofs.run_command.attempt.Goals as goal

pub returns-in_err-rules-clause-attempted : goal.returns-in_err-rules-clause-attempted
returns-in_err-rules-clause-attempted g c =
    let p = err_from_is_err_and c.from_residual.result c.from_residual.ensures.1 in
    rw (p.1, p.2) (unloaded (setting c.args.env.now (g.F.Files.held c.args.files.now) (asked_of c.args.command) (g.S.Source.left c.args.record_in.now))
    (g.K.Sink.written c.args.out.now) c.in_err-rules.field-0.0 c.in_err-rules.ensures.loads)

pub returns-in_err-rules-clause-files_failed : goal.returns-in_err-rules-clause-files_failed
returns-in_err-rules-clause-files_failed g c = λ is.
    let p = err_from_is_err_and c.from_residual.result c.from_residual.ensures.1 in
    let same : load_fault c.in_err-rules.field-0.0 ≡ run.Files = cc (p.1, p.2, is) in
    let (rose, reads) = c.in_err-rules.ensures.failed (ap Err (load_failed c.in_err-rules.field-0.0 same)) in (rose, reads, refl)

pub returns-in_err-rules-clause-too_large : goal.returns-in_err-rules-clause-too_large
returns-in_err-rules-clause-too_large g c = λ is.
    let p = err_from_is_err_and c.from_residual.result c.from_residual.ensures.1 in
    let same : load_fault c.in_err-rules.field-0.0 ≡ run.TooLarge = cc (p.1, p.2, is) in
    let (rose, judged) = c.in_err-rules.ensures.too_large (ap Err (load_large c.in_err-rules.field-0.0 same)) in (rose, inl (judged, refl))

pub returns-in_err-rules-clause-named : goal.returns-in_err-rules-clause-named
returns-in_err-rules-clause-named g c = c.in_err-rules.ensures.named

pub replay_rules-requires : goal.replay_rules-requires
replay_rules-requires g c = c.in_ok-rules.ensures.fit

pub returns-in-Replay-clause-attempted : goal.returns-in-Replay-clause-attempted
returns-in-Replay-clause-attempted g c =
    replayed_run c.in-Replay.detail (setting c.args.env.now (g.F.Files.held c.args.files.now) (asked_of c.args.command) (g.S.Source.left c.args.record_in.now))
    (c.in_ok-rules.rules, c.in_ok-rules.refs) (g.K.Sink.written c.args.out.now) (g.K.Sink.written c.replay_rules.new.out) c.replay_rules.result c.in-Replay.is
    c.in_ok-rules.ensures.loads c.replay_rules.ensures.replays

pub returns-in-Replay-clause-source_failed : goal.returns-in-Replay-clause-source_failed
returns-in-Replay-clause-source_failed g c = λ is. (
  c.replay_rules.ensures.source is,
  source_fails c.in-Replay.detail (setting c.args.env.now (g.F.Files.held c.args.files.now) (asked_of c.args.command) (g.S.Source.left c.args.record_in.now))
      (c.in_ok-rules.rules, c.in_ok-rules.refs) (g.S.Source.left c.replay_rules.new.record_in) (g.K.Sink.written c.args.out.now) (g.K.Sink.written c.replay_rules.new.out)
      c.in-Replay.is c.in_ok-rules.ensures.loads (c.replay_rules.ensures.decided is),
)

pub returns-in-Replay-clause-config_refused : goal.returns-in-Replay-clause-config_refused
returns-in-Replay-clause-config_refused g c = λ line code is. absurd (no_config c.replay_rules.result line code c.replay_rules.ensures.kind is)

pub returns-in-Replay-clause-files_failed : goal.returns-in-Replay-clause-files_failed
returns-in-Replay-clause-files_failed g c = λ is. absurd (no_files c.replay_rules.result c.replay_rules.ensures.kind is)

pub returns-in-Replay-clause-too_large : goal.returns-in-Replay-clause-too_large
returns-in-Replay-clause-too_large g c = λ is.
    let (rose, asks) = c.replay_rules.ensures.too_large is in (
      rw (c.in_ok-rules.ensures.uncounted (λ is. cc)).0 at rose,
      inr (run_asks c.in-Replay.detail (setting c.args.env.now (g.F.Files.held c.args.files.now) (asked_of c.args.command) (g.S.Source.left c.args.record_in.now))
          (c.in_ok-rules.rules, c.in_ok-rules.refs) (g.M.ReMaker.state c.replay_rules.new.maker).large c.in-Replay.is c.in_ok-rules.ensures.loads asks),
    )

pub returns-in-Replay-clause-named : goal.returns-in-Replay-clause-named
returns-in-Replay-clause-named g c = c.in_ok-rules.ensures.named

pub returns-in_err-write_check-in-Check-clause-attempted : goal.returns-in_err-write_check-in-Check-clause-attempted
returns-in_err-write_check-in-Check-clause-attempted g c =
    let p = err_from_is_err_and c.from_residual-in_err-write_check-in-Check.result c.from_residual-in_err-write_check-in-Check.ensures.1 in
    rw (p.1, p.2) (unchecked_run (setting c.args.env.now (g.F.Files.held c.args.files.now) (asked_of c.args.command) (g.S.Source.left c.args.record_in.now))
    (c.in_ok-rules.rules, c.in_ok-rules.refs) (g.K.Sink.written c.args.out.now) (g.K.Sink.written c.write_check.new.out)
    c.in_err-write_check-in-Check.field-0.0 c.in-Check.is c.in_ok-rules.ensures.loads c.in_err-write_check-in-Check.ensures.prefix)

pub returns-in_err-write_check-in-Check-clause-config_refused : goal.returns-in_err-write_check-in-Check-clause-config_refused
returns-in_err-write_check-in-Check-clause-config_refused g c = λ line code is.
    let p = err_from_is_err_and c.from_residual-in_err-write_check-in-Check.result c.from_residual-in_err-write_check-in-Check.ensures.1 in
    let same : sink_fault c.in_err-write_check-in-Check.field-0.0 ≡ run.ConfigRefused line code = cc (p.1, p.2, is) in
    absurd (no_config_at_sink c.in_err-write_check-in-Check.field-0.0 line code same)

pub returns-in_err-write_check-in-Check-clause-files_failed : goal.returns-in_err-write_check-in-Check-clause-files_failed
returns-in_err-write_check-in-Check-clause-files_failed g c = λ is.
    let p = err_from_is_err_and c.from_residual-in_err-write_check-in-Check.result c.from_residual-in_err-write_check-in-Check.ensures.1 in
    let same : sink_fault c.in_err-write_check-in-Check.field-0.0 ≡ run.Files = cc (p.1, p.2, is) in
    absurd ((only_sink c.in_err-write_check-in-Check.field-0.0).0 same)

pub returns-in_err-write_check-in-Check-clause-source_failed : goal.returns-in_err-write_check-in-Check-clause-source_failed
returns-in_err-write_check-in-Check-clause-source_failed g c = λ is.
    let p = err_from_is_err_and c.from_residual-in_err-write_check-in-Check.result c.from_residual-in_err-write_check-in-Check.ensures.1 in
    let same : sink_fault c.in_err-write_check-in-Check.field-0.0 ≡ run.Source = cc (p.1, p.2, is) in
    absurd ((only_sink c.in_err-write_check-in-Check.field-0.0).1 same)

pub returns-in_err-write_check-in-Check-clause-sink_failed : goal.returns-in_err-write_check-in-Check-clause-sink_failed
returns-in_err-write_check-in-Check-clause-sink_failed g c = λ is.
    let p = err_from_is_err_and c.from_residual-in_err-write_check-in-Check.result c.from_residual-in_err-write_check-in-Check.ensures.1 in
    let same : sink_fault c.in_err-write_check-in-Check.field-0.0 ≡ run.Sink = cc (p.1, p.2, is) in
    c.in_err-write_check-in-Check.ensures.failed (ap Err (check_failed c.in_err-write_check-in-Check.field-0.0 same))

pub returns-in_err-write_check-in-Check-clause-too_large : goal.returns-in_err-write_check-in-Check-clause-too_large
returns-in_err-write_check-in-Check-clause-too_large g c = λ is.
    let p = err_from_is_err_and c.from_residual-in_err-write_check-in-Check.result c.from_residual-in_err-write_check-in-Check.ensures.1 in
    let same : sink_fault c.in_err-write_check-in-Check.field-0.0 ≡ run.TooLarge = cc (p.1, p.2, is) in
    absurd ((only_sink c.in_err-write_check-in-Check.field-0.0).2 same)

pub returns-in_err-write_check-in-Check-clause-named : goal.returns-in_err-write_check-in-Check-clause-named
returns-in_err-write_check-in-Check-clause-named g c = c.in_ok-rules.ensures.named

pub returns-in_ok-write_check-in-Check-clause-attempted : goal.returns-in_ok-write_check-in-Check-clause-attempted
returns-in_ok-write_check-in-Check-clause-attempted g c =
    checked_run (setting c.args.env.now (g.F.Files.held c.args.files.now) (asked_of c.args.command) (g.S.Source.left c.args.record_in.now))
    (c.in_ok-rules.rules, c.in_ok-rules.refs) (g.K.Sink.written c.args.out.now) (g.K.Sink.written c.write_check.new.out) c.in-Check.is
    c.in_ok-rules.ensures.loads c.in_ok-write_check-in-Check.ensures.ok

pub returns-in_ok-write_check-in-Check-clause-named : goal.returns-in_ok-write_check-in-Check-clause-named
returns-in_ok-write_check-in-Check-clause-named g c = c.in_ok-rules.ensures.named

pub returns-in_err-rules-clause-before_reading : goal.returns-in_err-rules-clause-before_reading
returns-in_err-rules-clause-before_reading g c = nothing_read (setting c.args.env.now (g.F.Files.held c.args.files.now) (asked_of c.args.command) (g.S.Source.left c.args.record_in.now))
    (g.S.Source.log c.args.record_in.now) (g.K.Sink.written c.args.out.now) (g.K.Sink.written c.args.out.now)

pub returns-in_err-write_check-in-Check-clause-before_reading : goal.returns-in_err-write_check-in-Check-clause-before_reading
returns-in_err-write_check-in-Check-clause-before_reading g c = nothing_read (setting c.args.env.now (g.F.Files.held c.args.files.now) (asked_of c.args.command) (g.S.Source.left c.args.record_in.now))
    (g.S.Source.log c.args.record_in.now) (g.K.Sink.written c.args.out.now) (g.K.Sink.written c.write_check.new.out)

pub returns-in_ok-write_check-in-Check-clause-before_reading : goal.returns-in_ok-write_check-in-Check-clause-before_reading
returns-in_ok-write_check-in-Check-clause-before_reading g c = nothing_read (setting c.args.env.now (g.F.Files.held c.args.files.now) (asked_of c.args.command) (g.S.Source.left c.args.record_in.now))
    (g.S.Source.log c.args.record_in.now) (g.K.Sink.written c.args.out.now) (g.K.Sink.written c.write_check.new.out)

pub returns-in-Replay-clause-before_reading : goal.returns-in-Replay-clause-before_reading
returns-in-Replay-clause-before_reading g c =
    answers_before c.in-Replay.detail (setting c.args.env.now (g.F.Files.held c.args.files.now) (asked_of c.args.command) (g.S.Source.left c.args.record_in.now))
    (c.in_ok-rules.rules, c.in_ok-rules.refs) (g.S.Source.log c.args.record_in.now) (g.S.Source.log c.replay_rules.new.record_in) (g.K.Sink.written c.args.out.now)
    (g.K.Sink.written c.replay_rules.new.out) c.in-Replay.is c.in_ok-rules.ensures.loads c.replay_rules.ensures.before_reading

pub returns-in_err-rules-clause-files_read : goal.returns-in_err-rules-clause-files_read
returns-in_err-rules-clause-files_read g c =
    let p = err_from_is_err_and c.from_residual.result c.from_residual.ensures.1 in
    rw (p.1, p.2) (files_of_unloaded (setting c.args.env.now (g.F.Files.held c.args.files.now) (asked_of c.args.command) (g.S.Source.left c.args.record_in.now))
    c.in_err-rules.field-0.0 (g.F.Files.last c.load_config.new.files) (g.F.Files.log c.args.files.now) (g.F.Files.log c.load_config.new.files)
    c.in_err-rules.ensures.files_read)

pub returns-in-Replay-clause-files_read : goal.returns-in-Replay-clause-files_read
returns-in-Replay-clause-files_read g c =
    files_loaded (config_of (setting c.args.env.now (g.F.Files.held c.args.files.now) (asked_of c.args.command) (g.S.Source.left c.args.record_in.now)))
    (c.in_ok-rules.rules, c.in_ok-rules.refs) (g.F.Files.last c.load_config.new.files) (g.F.Files.last c.load_config.new.files) (result_status c.replay_rules.result)
    (g.F.Files.log c.args.files.now) (g.F.Files.log c.load_config.new.files) (no_refusal c.replay_rules.result c.replay_rules.ensures.kind) c.in_ok-rules.ensures.files_read

pub returns-in_err-write_check-in-Check-clause-files_read : goal.returns-in_err-write_check-in-Check-clause-files_read
returns-in_err-write_check-in-Check-clause-files_read g c =
    let p = err_from_is_err_and c.from_residual-in_err-write_check-in-Check.result c.from_residual-in_err-write_check-in-Check.ensures.1 in
    rw (p.1, p.2) (files_loaded (config_of (setting c.args.env.now (g.F.Files.held c.args.files.now) (asked_of c.args.command) (g.S.Source.left c.args.record_in.now)))
    (c.in_ok-rules.rules, c.in_ok-rules.refs) (g.F.Files.last c.load_config.new.files) (g.F.Files.last c.load_config.new.files)
    (fault_status (sink_fault c.in_err-write_check-in-Check.field-0.0)) (g.F.Files.log c.args.files.now) (g.F.Files.log c.load_config.new.files)
    (no_refusal_at_sink c.in_err-write_check-in-Check.field-0.0) c.in_ok-rules.ensures.files_read)

pub returns-in_ok-write_check-in-Check-clause-files_read : goal.returns-in_ok-write_check-in-Check-clause-files_read
returns-in_ok-write_check-in-Check-clause-files_read g c =
    files_loaded (config_of (setting c.args.env.now (g.F.Files.held c.args.files.now) (asked_of c.args.command) (g.S.Source.left c.args.record_in.now)))
    (c.in_ok-rules.rules, c.in_ok-rules.refs) (g.F.Files.last c.load_config.new.files) (g.F.Files.last c.load_config.new.files) 0
    (g.F.Files.log c.args.files.now) (g.F.Files.log c.load_config.new.files) (λ is. absurd (omega (arith, is))) c.in_ok-rules.ensures.files_read
