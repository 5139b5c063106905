use Rattle.std.proofs.Common.{[]}
use Rattle.hx_cases_trace.proofs.loading.try_lines.Goals as goal

pub returns : goal.returns
returns g c = λ refusal is.
    absurd (c.what_loads_has_no_fault_in_its_lines.ensures.brought [] _ c.args.config.now _ _ c.in_ok-_brought.ensures.accepted refusal is)
