use Rattle.hx_replay.specs.Configs.{program_of}
use Rattle.hx_trace_run.proofs.CheckLemmas.{named_found, named_unread}
use Rattle.hx_trace_run.proofs.check.find_loaded.Goals as goal

pub returns-in-Ok-clause-finds : goal.returns-in-Ok-clause-finds
returns-in-Ok-clause-finds g c =
    named_found (program_of c.args.loaded) (g.F.Files.held c.args.files.now) c.args.trace_name.now c.in-Ok.trace.items (g.S.Source.left c.args.record_in.now)
    c.check_record.result c.in-Ok.ensures.bytes c.check_record.ensures.finds

pub returns-in-Err-clause-finds : goal.returns-in-Err-clause-finds
returns-in-Err-clause-finds g c =
    rw c.from.ensures (named_unread (program_of c.args.loaded) (g.F.Files.held c.args.files.now) c.args.trace_name.now (g.S.Source.left c.args.record_in.now) c.in-Err.fault)
