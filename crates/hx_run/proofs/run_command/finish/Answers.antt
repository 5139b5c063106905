use Rattle.std.proofs.Common.{[], refl, inr, arith}
use Rattle.std.proofs.KnownBytes.{Appends-nil}
use Rattle.hx_run.specs.Outcome.{last_line}
use Rattle.hx_run.specs.RunFault.{fault_end}
use Rattle.hx_run.proofs.run_command.finish.Goals as goal

pub returns-in_default-clause-finished : goal.returns-in_default-clause-finished
returns-in_default-clause-finished g c =
    inr (
      (1, omega arith, refl),
      record {
        prefix = [];
        rest = last_line (fault_end c.args.fault);
        whole = refl;
        appended = Appends-nil (g.K.Sink.written c.args.out.now);
      },
    )
