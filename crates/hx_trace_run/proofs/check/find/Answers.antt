use Rattle.std.proofs.Common.{inl, inr, ap, refl, Err}
use Rattle.hx_run.specs.declared.command.Detail.TheVariants.{Reasons}
use Rattle.hx_run.proofs.RunLemmas.{run_asks}
use Rattle.hx_trace_run.specs.Checking.{check_setting, trace_setting}
use Rattle.hx_trace_run.proofs.CheckLemmas.{both_named, config_named, config_reads, files_of_loaded, files_of_unloaded, load_failed, load_large, load_sink, load_source, loaded_finds, no_config, rose_from, rose_later, source_fails, trace_unread, unloaded_finds}
use Rattle.hx_trace_run.proofs.check.find.Goals as goal

pub returns-in-Ok-clause-finds : goal.returns-in-Ok-clause-finds
returns-in-Ok-clause-finds g c =
    loaded_finds (check_setting c.args.env.now (g.F.Files.held c.args.files.now) c.args.config_name.now c.args.trace_name.now (g.S.Source.left c.args.record_in.now))
    c.in-Ok.loaded c.find_loaded.result c.in-Ok.ensures.loads (rw c.load_config.ensures.held at c.find_loaded.ensures.finds)

pub returns-in-Ok-clause-config_refused : goal.returns-in-Ok-clause-config_refused
returns-in-Ok-clause-config_refused g c = λ line code is. absurd (no_config c.find_loaded.result line code c.find_loaded.ensures.kind is)

pub returns-in-Ok-clause-files_failed : goal.returns-in-Ok-clause-files_failed
returns-in-Ok-clause-files_failed g c = λ is.
    let (rose, last) = c.find_loaded.ensures.files_failed is in (
      rose_later (g.F.Files.faults c.args.files.now) (g.F.Files.faults c.load_config.new.files) (g.F.Files.faults c.find_loaded.new.files)
          c.in-Ok.ensures.later rose,
      trace_unread (check_setting c.args.env.now (g.F.Files.held c.args.files.now) c.args.config_name.now c.args.trace_name.now (g.S.Source.left c.args.record_in.now))
          c.in-Ok.loaded (g.F.Files.last c.find_loaded.new.files) c.in-Ok.ensures.loads last,
    )

pub returns-in-Ok-clause-source_failed : goal.returns-in-Ok-clause-source_failed
returns-in-Ok-clause-source_failed g c = λ is.
    let (rose, takes) = c.find_loaded.ensures.source_failed is in (
      rose,
      source_fails (check_setting c.args.env.now (g.F.Files.held c.args.files.now) c.args.config_name.now c.args.trace_name.now (g.S.Source.left c.args.record_in.now))
          c.in-Ok.loaded (g.S.Source.left c.find_loaded.new.record_in) c.in-Ok.ensures.loads takes,
    )

pub returns-in-Ok-clause-too_large : goal.returns-in-Ok-clause-too_large
returns-in-Ok-clause-too_large g c = λ is.
    let (rose, last) = c.find_loaded.ensures.too_large is in (
      rose_from (g.M.ReMaker.state c.args.maker.now).too_large (g.M.ReMaker.state c.load_config.new.maker).too_large (g.M.ReMaker.state c.find_loaded.new.maker).too_large
          (c.in-Ok.ensures.uncounted (λ is. cc)).0 rose,
      inr (run_asks Reasons (trace_setting (check_setting c.args.env.now (g.F.Files.held c.args.files.now) c.args.config_name.now c.args.trace_name.now (g.S.Source.left c.args.record_in.now)))
          c.in-Ok.loaded (g.M.ReMaker.state c.find_loaded.new.maker).large refl c.in-Ok.ensures.loads last),
    )

pub returns-in-Ok-clause-named : goal.returns-in-Ok-clause-named
returns-in-Ok-clause-named g c =
    both_named (check_setting c.args.env.now (g.F.Files.held c.args.files.now) c.args.config_name.now c.args.trace_name.now (g.S.Source.left c.args.record_in.now))
    c.in-Ok.loaded (g.F.Files.last c.args.files.now) (g.F.Files.last c.load_config.new.files) (g.F.Files.last c.find_loaded.new.files) c.in-Ok.ensures.loads
    c.in-Ok.ensures.named c.find_loaded.ensures.named

pub returns-in-Err-clause-finds : goal.returns-in-Err-clause-finds
returns-in-Err-clause-finds g c =
    rw c.from.ensures (unloaded_finds
    (check_setting c.args.env.now (g.F.Files.held c.args.files.now) c.args.config_name.now c.args.trace_name.now (g.S.Source.left c.args.record_in.now))
    c.in-Err.fault c.in-Err.ensures.loads)

pub returns-in-Err-clause-files_failed : goal.returns-in-Err-clause-files_failed
returns-in-Err-clause-files_failed g c = λ is.
    let (rose, reads) = c.in-Err.ensures.failed (ap Err (load_failed c.in-Err.fault (rw c.from.ensures at is))) in (
      rose,
      config_reads (check_setting c.args.env.now (g.F.Files.held c.args.files.now) c.args.config_name.now c.args.trace_name.now (g.S.Source.left c.args.record_in.now))
          (g.F.Files.last c.load_config.new.files) reads,
    )

pub returns-in-Err-clause-source_failed : goal.returns-in-Err-clause-source_failed
returns-in-Err-clause-source_failed g c = λ is. absurd (load_source c.in-Err.fault (rw c.from.ensures at is))

pub returns-in-Err-clause-sink_failed : goal.returns-in-Err-clause-sink_failed
returns-in-Err-clause-sink_failed g c = λ is. absurd (load_sink c.in-Err.fault (rw c.from.ensures at is))

pub returns-in-Err-clause-too_large : goal.returns-in-Err-clause-too_large
returns-in-Err-clause-too_large g c = λ is.
    let (rose, judged) = c.in-Err.ensures.too_large (ap Err (load_large c.in-Err.fault (rw c.from.ensures at is))) in (rose, inl judged)

pub returns-in-Err-clause-named : goal.returns-in-Err-clause-named
returns-in-Err-clause-named g c =
    config_named (check_setting c.args.env.now (g.F.Files.held c.args.files.now) c.args.config_name.now c.args.trace_name.now (g.S.Source.left c.args.record_in.now))
    (g.F.Files.last c.args.files.now) (g.F.Files.last c.load_config.new.files) c.in-Err.ensures.named

pub returns-in-Ok-clause-files_read : goal.returns-in-Ok-clause-files_read
returns-in-Ok-clause-files_read g c =
    files_of_loaded (check_setting c.args.env.now (g.F.Files.held c.args.files.now) c.args.config_name.now c.args.trace_name.now (g.S.Source.left c.args.record_in.now))
    c.in-Ok.loaded c.find_loaded.result (g.F.Files.last c.load_config.new.files) (g.F.Files.last c.find_loaded.new.files) (g.F.Files.log c.args.files.now)
    (g.F.Files.log c.load_config.new.files) (g.F.Files.log c.find_loaded.new.files) c.find_loaded.ensures.kind c.in-Ok.ensures.files_read c.find_loaded.ensures.file_read

pub returns-in-Err-clause-files_read : goal.returns-in-Err-clause-files_read
returns-in-Err-clause-files_read g c =
    rw c.from.ensures (files_of_unloaded
    (check_setting c.args.env.now (g.F.Files.held c.args.files.now) c.args.config_name.now c.args.trace_name.now (g.S.Source.left c.args.record_in.now))
    c.in-Err.fault (g.F.Files.last c.load_config.new.files) (g.F.Files.log c.args.files.now) (g.F.Files.log c.load_config.new.files) c.in-Err.ensures.files_read)
