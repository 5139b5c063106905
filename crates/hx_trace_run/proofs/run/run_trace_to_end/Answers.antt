use Rattle.std.proofs.Common.{◌≡◌, ap, sym, ◌∙◌, Some}
use Rattle.hx_program.specs.Machine.{texts_of}
use Rattle.hx_run.specs.declared.command.Detail.TheVariants.{Reasons}
use Rattle.hx_trace_run.specs.Command.{checked_of, traced_of}
use Rattle.hx_trace_run.specs.Words.{command_of}
use Rattle.hx_trace_run.proofs.WordsLemmas.{check_status, traced_status, traced_task, unfailed_check}
use Rattle.hx_trace_run.proofs.run.run_trace_to_end.Goals as goal

pub returns-in-Trace-clause-status : goal.returns-in-Trace-clause-status
returns-in-Trace-clause-status g c = traced_status c.run_command.result.status c.run_command.ensures.status

pub returns-in-Trace-clause-headline : goal.returns-in-Trace-clause-headline
returns-in-Trace-clause-headline g c =
    let eq : command_of (texts_of c.args.words.now) ≡ Some _ = sym c.in-Some.ensures.trace ∙ ap traced_of c.in-Trace.is in
    rw eq (λ done. c.run_command.ensures.headline done Reasons (traced_task (texts_of c.args.words.now) _ eq))

pub returns-in-Trace-clause-complete : goal.returns-in-Trace-clause-complete
returns-in-Trace-clause-complete g c =
    rw (sym c.in-Some.ensures.trace ∙ ap traced_of c.in-Trace.is) c.run_command.ensures.complete

pub returns-in-Check-clause-status : goal.returns-in-Check-clause-status
returns-in-Check-clause-status g c = check_status c.check_trace.result.status c.check_trace.ensures.status

pub returns-in-Check-clause-check_complete : goal.returns-in-Check-clause-check_complete
returns-in-Check-clause-check_complete g c =
    rw (sym c.in-Some.ensures.check ∙ ap checked_of c.in-Check.is) c.check_trace.ensures.complete

pub returns-in-Check-clause-no_fault : goal.returns-in-Check-clause-no_fault
returns-in-Check-clause-no_fault g c = λ none. unfailed_check c.check_trace.result.status (c.check_trace.ensures.no_fault none)
