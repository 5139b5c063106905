use Rattle.std.proofs.Common.{inr, ap, Err}
use Rattle.hx_replay.specs.Configs.{config_setting}
use Rattle.hx_replay.proofs.ConfigFileLemmas.{files_of_load, files_unread, files_without_memory}
use Rattle.hx_replay.proofs.ConfigLemmas.{config_loads, config_unread, fits_where, load_judges, load_named, load_reads, reads_config}
use Rattle.hx_replay.proofs.config_load.load_config.Goals as goal

pub returns-in-Ok-clause-loads : goal.returns-in-Ok-clause-loads
returns-in-Ok-clause-loads g c =
    config_loads (config_setting c.args.env.now (g.F.Files.held c.args.files.now) c.args.name.now) (g.F.Files.held c.read.new.self) c.usual.result c.in-Ok.config.items
    c.as_slice.result.now c.load.result
    (reads_config (config_setting c.args.env.now (g.F.Files.held c.args.files.now) c.args.name.now) (g.F.Files.held c.read.new.self) c.usual.result c.in-Ok.config.items c.as_slice.result.now
    c.in-Ok.ensures.bytes c.in-Ok.ensures.same c.usual.ensures c.as_slice.ensures.value)
    c.load.ensures.loads

pub returns-in-Ok-clause-fit : goal.returns-in-Ok-clause-fit
returns-in-Ok-clause-fit g c = fits_where c.load.result c.load.ensures.heads c.load.ensures.lists

pub returns-in-Ok-clause-failed : goal.returns-in-Ok-clause-failed
returns-in-Ok-clause-failed g c = λ is.
    let (rose, reads) = c.load.ensures.failed is in (
      rw c.in-Ok.ensures.uncounted at rose,
      load_reads (config_setting c.args.env.now (g.F.Files.held c.args.files.now) c.args.name.now) (g.F.Files.held c.read.new.self) c.usual.result c.in-Ok.config.items
          c.as_slice.result.now (g.F.Files.last c.load.new.files)
          (reads_config (config_setting c.args.env.now (g.F.Files.held c.args.files.now) c.args.name.now) (g.F.Files.held c.read.new.self) c.usual.result c.in-Ok.config.items c.as_slice.result.now
          c.in-Ok.ensures.bytes c.in-Ok.ensures.same c.usual.ensures c.as_slice.ensures.value) reads,
    )

pub returns-in-Ok-clause-too_large : goal.returns-in-Ok-clause-too_large
returns-in-Ok-clause-too_large g c = λ is.
    let (rose, judged) = c.load.ensures.too_large is in (
      rose,
      load_judges (config_setting c.args.env.now (g.F.Files.held c.args.files.now) c.args.name.now) (g.F.Files.held c.read.new.self) c.usual.result c.in-Ok.config.items
          c.as_slice.result.now (g.M.ReMaker.state c.load.new.maker).large
          (reads_config (config_setting c.args.env.now (g.F.Files.held c.args.files.now) c.args.name.now) (g.F.Files.held c.read.new.self) c.usual.result c.in-Ok.config.items c.as_slice.result.now
          c.in-Ok.ensures.bytes c.in-Ok.ensures.same c.usual.ensures c.as_slice.ensures.value) judged,
    )

pub returns-in-Ok-clause-named : goal.returns-in-Ok-clause-named
returns-in-Ok-clause-named g c =
    load_named (config_setting c.args.env.now (g.F.Files.held c.args.files.now) c.args.name.now) (g.F.Files.held c.read.new.self) c.usual.result c.in-Ok.config.items
    c.as_slice.result.now (g.F.Files.last c.args.files.now) (g.F.Files.last c.read.new.self) (g.F.Files.last c.load.new.files)
    (reads_config (config_setting c.args.env.now (g.F.Files.held c.args.files.now) c.args.name.now) (g.F.Files.held c.read.new.self) c.usual.result c.in-Ok.config.items c.as_slice.result.now
    c.in-Ok.ensures.bytes c.in-Ok.ensures.same c.usual.ensures c.as_slice.ensures.value)
    c.in-Ok.ensures.kept c.load.ensures.named

pub returns-in-Err-Failed-clause-failed : goal.returns-in-Err-Failed-clause-failed
returns-in-Err-Failed-clause-failed g c = λ is. (
  c.in-Err-Failed.ensures.failed (ap Err c.in-Err-Failed.field-0-is),
  config_unread (config_setting c.args.env.now (g.F.Files.held c.args.files.now) c.args.name.now) (g.F.Files.last c.read.new.self)
      (c.in-Err-Failed.ensures.named (ap Err c.in-Err-Failed.field-0-is)),
)

pub returns-in-Err-Failed-clause-named : goal.returns-in-Err-Failed-clause-named
returns-in-Err-Failed-clause-named g c =
    inr (config_unread (config_setting c.args.env.now (g.F.Files.held c.args.files.now) c.args.name.now) (g.F.Files.last c.read.new.self)
    (c.in-Err-Failed.ensures.named (ap Err c.in-Err-Failed.field-0-is)))

pub returns-in-Ok-clause-files_read : goal.returns-in-Ok-clause-files_read
returns-in-Ok-clause-files_read g c =
    files_of_load (config_setting c.args.env.now (g.F.Files.held c.args.files.now) c.args.name.now) (g.F.Files.held c.read.new.self) c.usual.result c.in-Ok.config.items
    c.as_slice.result.now c.load.result (g.F.Files.last c.load.new.files) (g.F.Files.log c.args.files.now) (g.F.Files.log c.read.new.self) (g.F.Files.log c.load.new.files)
    (reads_config (config_setting c.args.env.now (g.F.Files.held c.args.files.now) c.args.name.now) (g.F.Files.held c.read.new.self) c.usual.result c.in-Ok.config.items c.as_slice.result.now
    c.in-Ok.ensures.bytes c.in-Ok.ensures.same c.usual.ensures c.as_slice.ensures.value)
    c.in-Ok.ensures.log c.load.ensures.reads

pub returns-in-Err-Failed-clause-files_read : goal.returns-in-Err-Failed-clause-files_read
returns-in-Err-Failed-clause-files_read g c =
    files_unread (config_setting c.args.env.now (g.F.Files.held c.args.files.now) c.args.name.now) (g.F.Files.last c.read.new.self)
    (g.F.Files.log c.args.files.now) (g.F.Files.log c.read.new.self) c.read.ensures.log
    (c.in-Err-Failed.ensures.named (ap Err c.in-Err-Failed.field-0-is))

pub returns-in-Err-NoMemory-clause-files_read : goal.returns-in-Err-NoMemory-clause-files_read
returns-in-Err-NoMemory-clause-files_read g c =
    files_without_memory (config_setting c.args.env.now (g.F.Files.held c.args.files.now) c.args.name.now) (g.F.Files.last c.read.new.self)
    (g.F.Files.log c.args.files.now) (g.F.Files.log c.read.new.self) c.in-Err-NoMemory.ensures.log
