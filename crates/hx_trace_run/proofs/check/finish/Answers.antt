use Rattle.std.proofs.Common.{[], inr, arith, refl}
use Rattle.std.proofs.KnownBytes.{Appends-nil}
use Rattle.hx_trace_run.specs.CheckView.{result_text}
use Rattle.hx_trace_run.proofs.check.finish.Goals as goal

pub returns-in_default-clause-finished : goal.returns-in_default-clause-finished
returns-in_default-clause-finished g c =
    inr ((1, omega arith, refl), record { prefix = []; rest = result_text c.args.found; whole = refl; appended = Appends-nil (g.K.Sink.written c.args.out.now) })
