use Rattle.std.proofs.Common.{◌∙◌, Err, ap, inl, inr, sym}
use Rattle.hx_config.proofs.RunLemmas.{complete, done_status, headline, is_files, is_sink, statuses, tells, written_statuses}
use Rattle.hx_config.proofs.run.run.Goals as goal

pub returns-in-Ok-clause-status : goal.returns-in-Ok-clause-status
returns-in-Ok-clause-status g c = rw c.written_status.ensures.status (written_statuses c.in-Ok.amiss)

pub returns-in-Ok-clause-headline : goal.returns-in-Ok-clause-headline
returns-in-Ok-clause-headline g c = rw (← c.in-Some.ensures) (λ zero. headline _ _ _ _ _ _ c.in-Ok.ensures.ran (sym c.written_status.ensures.status ∙ zero))

pub returns-in-Ok-clause-tells : goal.returns-in-Ok-clause-tells
returns-in-Ok-clause-tells g c = rw (← c.in-Some.ensures) (λ one. tells _ _ _ _ _ _ c.in-Ok.ensures.ran (sym c.written_status.ensures.status ∙ one))

pub returns-in-Ok-clause-ran : goal.returns-in-Ok-clause-ran
returns-in-Ok-clause-ran g c = rw (← c.in-Some.ensures, c.written_status.ensures.status) c.in-Ok.ensures.ran

pub returns-in-Ok-clause-complete : goal.returns-in-Ok-clause-complete
returns-in-Ok-clause-complete g c = rw (← c.in-Some.ensures, c.written_status.ensures.status) (λ files out notes. inr (done_status _ _ _ _ _ c.in-Ok.amiss c.in-Ok.ensures.ran))

pub returns-in-Ok-clause-files_read : goal.returns-in-Ok-clause-files_read
returns-in-Ok-clause-files_read g c = rw (← c.in-Some.ensures) c.in-Ok.ensures.files_read

pub returns-in-Err-clause-status : goal.returns-in-Err-clause-status
returns-in-Err-clause-status g c = rw c.status.ensures.status (statuses c.in-Err.fault)

pub returns-in-Err-clause-ran : goal.returns-in-Err-clause-ran
returns-in-Err-clause-ran g c = rw (← c.in-Some.ensures, c.status.ensures.status) c.in-Err.ensures.ran

pub returns-in-Err-clause-outside : goal.returns-in-Err-clause-outside
returns-in-Err-clause-outside g c = rw (← c.in-Some.ensures) (λ five.
    c.in-Err.ensures.files_failed (ap Err (is_files c.in-Err.fault (sym c.status.ensures.status ∙ five))))

pub returns-in-Err-clause-sink : goal.returns-in-Err-clause-sink
returns-in-Err-clause-sink g c = λ six.
    c.in-Err.ensures.sink_failed (ap Err (is_sink c.in-Err.fault (sym c.status.ensures.status ∙ six)))

pub returns-in-Err-clause-complete : goal.returns-in-Err-clause-complete
returns-in-Err-clause-complete g c = rw (← c.in-Some.ensures, c.status.ensures.status) (λ files out notes.
    complete _ _ _ _ _ c.in-Err.fault c.in-Err.ensures.ran
    (λ is. files (c.in-Err.ensures.files_failed (ap Err is)).0)
    (λ is. elim (c.in-Err.ensures.sink_failed (ap Err is)) [ inl failed ↦ out failed | inr failed ↦ notes failed ]))

pub returns-in-Err-clause-files_read : goal.returns-in-Err-clause-files_read
returns-in-Err-clause-files_read g c = rw (← c.in-Some.ensures) c.in-Err.ensures.files_read
