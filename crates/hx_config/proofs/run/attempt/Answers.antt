use Rattle.std.proofs.Common.{◌≡◌, Err, ap, refl}
use Rattle.std.proofs.lemmas.Result.{err_from_is_err_and}
use Rattle.hx_config.specs.Command.{request_of}
use Rattle.hx_config.specs.Run.{setting}
use Rattle.hx_config.specs.RunFault.{fault_of_file, sink_fault}
use Rattle.hx_config.specs.declared.run_fault.RunFault.TheVariants as fault
use Rattle.hx_config.proofs.RunLemmas.{done, file_failed, file_unread, has_outcome, no_frontend, no_memory, one_read, sink_failed, unwritten}
use Rattle.hx_config.proofs.run.attempt.Goals as goal

pub returns-in_err-content-clause-ran : goal.returns-in_err-content-clause-ran
returns-in_err-content-clause-ran g c =
    let p = err_from_is_err_and c.from_residual.result c.from_residual.ensures.1 in
    rw (p.1, p.2) (file_unread (setting c.args.env.now (g.F.Files.held c.args.files.now) (request_of c.args.command)) (g.K.Sink.written c.args.out.now) (g.N.Sink.written c.args.notes.now) c.in_err-content.field-0.0)

pub returns-in_err-content-clause-files_failed : goal.returns-in_err-content-clause-files_failed
returns-in_err-content-clause-files_failed g c = λ is.
    let p = err_from_is_err_and c.from_residual.result c.from_residual.ensures.1 in
    let same : fault_of_file c.in_err-content.field-0.0 ≡ fault.Files = cc (p.1, p.2, is) in
    let failed = file_failed c.in_err-content.field-0.0 same in
    (c.in_err-content.ensures.failed (ap Err failed), c.in_err-content.ensures.named (ap Err failed), refl, refl)

pub returns-in_err-content-clause-files_read : goal.returns-in_err-content-clause-files_read
returns-in_err-content-clause-files_read g c = one_read (g.F.Files.log c.args.files.now) (g.F.Files.log c.read.new.self) c.args.command.file.now c.in_err-content.ensures.log

pub returns-in_err-found-clause-ran : goal.returns-in_err-found-clause-ran
returns-in_err-found-clause-ran g c =
    let p = err_from_is_err_and c.from_residual-in_err-found.result c.from_residual-in_err-found.ensures.1 in
    rw (p.1, p.2) (no_memory (setting c.args.env.now (g.F.Files.held c.args.files.now) (request_of c.args.command)) (g.K.Sink.written c.args.out.now) (g.N.Sink.written c.args.notes.now))

pub returns-in_err-found-clause-files_read : goal.returns-in_err-found-clause-files_read
returns-in_err-found-clause-files_read g c = one_read (g.F.Files.log c.args.files.now) (g.F.Files.log c.read.new.self) c.args.command.file.now c.in_ok-content.ensures.log

pub returns-in_default-clause-ran : goal.returns-in_default-clause-ran
returns-in_default-clause-ran g c =
    let s = setting c.args.env.now (g.F.Files.held c.args.files.now) (request_of c.args.command) in
    no_frontend s (g.K.Sink.written c.args.out.now) (g.N.Sink.written c.args.notes.now) c.in_ok-found.found
    (has_outcome s c.in_ok-content.content.items c.as_slice.result.now c.in_ok-found.found c.in_ok-content.ensures.bytes c.as_slice.ensures.value c.in_ok-found.ensures)
    c.in_default.is

pub returns-in_default-clause-files_read : goal.returns-in_default-clause-files_read
returns-in_default-clause-files_read g c = one_read (g.F.Files.log c.args.files.now) (g.F.Files.log c.read.new.self) c.args.command.file.now c.in_ok-content.ensures.log

pub returns-in_err-write-clause-ran : goal.returns-in_err-write-clause-ran
returns-in_err-write-clause-ran g c =
    let s = setting c.args.env.now (g.F.Files.held c.args.files.now) (request_of c.args.command) in
    let p = err_from_is_err_and c.from_residual-in_err-write.result c.from_residual-in_err-write.ensures.1 in
    rw (p.1, p.2) (unwritten s (g.K.Sink.written c.args.out.now) (g.K.Sink.written c.write.new.out) (g.N.Sink.written c.args.notes.now) (g.N.Sink.written c.write.new.notes)
    c.in_ok-found.found c.in-Some.written c.in_err-write.field-0.0
    (has_outcome s c.in_ok-content.content.items c.as_slice.result.now c.in_ok-found.found c.in_ok-content.ensures.bytes c.as_slice.ensures.value c.in_ok-found.ensures)
    c.in-Some.is c.in_err-write.ensures.text c.in_err-write.ensures.notes)

pub returns-in_err-write-clause-sink_failed : goal.returns-in_err-write-clause-sink_failed
returns-in_err-write-clause-sink_failed g c = λ is.
    let p = err_from_is_err_and c.from_residual-in_err-write.result c.from_residual-in_err-write.ensures.1 in
    let same : sink_fault c.in_err-write.field-0.0 ≡ fault.Sink = cc (p.1, p.2, is) in
    c.in_err-write.ensures.failed (ap Err (sink_failed c.in_err-write.field-0.0 same))

pub returns-in_err-write-clause-files_read : goal.returns-in_err-write-clause-files_read
returns-in_err-write-clause-files_read g c = one_read (g.F.Files.log c.args.files.now) (g.F.Files.log c.read.new.self) c.args.command.file.now c.in_ok-content.ensures.log

pub returns-clause-ran : goal.returns-clause-ran
returns-clause-ran g c =
    let s = setting c.args.env.now (g.F.Files.held c.args.files.now) (request_of c.args.command) in
    done s (g.K.Sink.written c.args.out.now) (g.K.Sink.written c.write.new.out) (g.N.Sink.written c.args.notes.now) (g.N.Sink.written c.write.new.notes)
    c.in_ok-found.found c.in-Some.written
    (has_outcome s c.in_ok-content.content.items c.as_slice.result.now c.in_ok-found.found c.in_ok-content.ensures.bytes c.as_slice.ensures.value c.in_ok-found.ensures)
    c.in-Some.is c.in_ok-write.ensures.ok

pub returns-clause-files_read : goal.returns-clause-files_read
returns-clause-files_read g c = one_read (g.F.Files.log c.args.files.now) (g.F.Files.log c.read.new.self) c.args.command.file.now c.in_ok-content.ensures.log
