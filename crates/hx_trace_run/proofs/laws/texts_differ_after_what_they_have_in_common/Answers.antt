use Rattle.hx_trace_run.proofs.DifferenceLemmas.{other_there, same_before}
use Rattle.hx_trace_run.proofs.laws.texts_differ_after_what_they_have_in_common.Goals as goal

pub returns : goal.returns
returns c = record { same = same_before; different = other_there }
