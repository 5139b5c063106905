use Rattle.std.proofs.Common.{sym, arith}
use Rattle.hx_program.specs.Machine.{texts_of}
use Rattle.hx_run.specs.declared.command.Detail.TheVariants.{Verdicts}
use Rattle.hx_run.proofs.GeneratedLemmas.{no_size, usage}
use Rattle.hx_run.proofs.StatusLemmas.{known_status, no_usage}
use Rattle.hx_run.proofs.run.run_to_end.Goals as goal

pub returns-in-Some-clause-status : goal.returns-in-Some-clause-status
returns-in-Some-clause-status g c = known_status c.run_command.result.status c.run_command.ensures.status

pub returns-in-Some-clause-usage : goal.returns-in-Some-clause-usage
returns-in-Some-clause-usage g c =
    usage (texts_of c.args.words.now) _ c.run_command.result.status (sym c.in-Some.ensures) (no_usage c.run_command.result.status c.run_command.ensures.status)

pub returns-in-Some-clause-untouched : goal.returns-in-Some-clause-untouched
returns-in-Some-clause-untouched g c = λ two. absurd (no_usage c.run_command.result.status c.run_command.ensures.status two)

pub returns-in-Some-clause-generated : goal.returns-in-Some-clause-generated
returns-in-Some-clause-generated g c = rw (no_size _ _ (sym c.in-Some.ensures)) tt

pub returns-in-Some-clause-untouched_by_generated : goal.returns-in-Some-clause-untouched_by_generated
returns-in-Some-clause-untouched_by_generated g c = rw (no_size _ _ (sym c.in-Some.ensures)) tt

pub returns-in-Some-clause-headline : goal.returns-in-Some-clause-headline
returns-in-Some-clause-headline g c = rw (← c.in-Some.ensures) (λ done. c.run_command.ensures.headline done Verdicts)

pub returns-in-Some-clause-unseen : goal.returns-in-Some-clause-unseen
returns-in-Some-clause-unseen g c = rw (← c.in-Some.ensures) c.run_command.ensures.unseen

pub returns-in-Some-clause-checked : goal.returns-in-Some-clause-checked
returns-in-Some-clause-checked g c = rw (← c.in-Some.ensures) c.run_command.ensures.checked

pub returns-in-Some-clause-ran : goal.returns-in-Some-clause-ran
returns-in-Some-clause-ran g c = rw (← c.in-Some.ensures) c.run_command.ensures.ran

pub returns-in-Some-clause-at_end : goal.returns-in-Some-clause-at_end
returns-in-Some-clause-at_end g c = rw (← c.in-Some.ensures) c.run_command.ensures.at_end

pub returns-in-Some-clause-before_reading : goal.returns-in-Some-clause-before_reading
returns-in-Some-clause-before_reading g c = rw (← c.in-Some.ensures) c.run_command.ensures.before_reading

pub returns-in-Some-clause-unread : goal.returns-in-Some-clause-unread
returns-in-Some-clause-unread g c = rw (← c.in-Some.ensures) c.run_command.ensures.unread

pub returns-in-Some-clause-outside : goal.returns-in-Some-clause-outside
returns-in-Some-clause-outside g c = rw (← c.in-Some.ensures) c.run_command.ensures.outside

pub returns-in-Some-clause-too_large : goal.returns-in-Some-clause-too_large
returns-in-Some-clause-too_large g c = rw (← c.in-Some.ensures) c.run_command.ensures.too_large

pub returns-in-Some-clause-complete : goal.returns-in-Some-clause-complete
returns-in-Some-clause-complete g c = rw (← c.in-Some.ensures) c.run_command.ensures.complete

pub returns-in-Some-clause-named : goal.returns-in-Some-clause-named
returns-in-Some-clause-named g c = rw (← c.in-Some.ensures) c.run_command.ensures.named

pub returns-in-Some-clause-files_read : goal.returns-in-Some-clause-files_read
returns-in-Some-clause-files_read g c = rw (← c.in-Some.ensures) c.run_command.ensures.files_read

pub returns-in-Some-clause-told : goal.returns-in-Some-clause-told
returns-in-Some-clause-told g c = rw (← c.in-Some.ensures) c.run_command.ensures.told

pub returns-in-Some-clause-no_fault : goal.returns-in-Some-clause-no_fault
returns-in-Some-clause-no_fault g c = λ none. (0, omega arith, sym (c.run_command.ensures.no_fault none))
