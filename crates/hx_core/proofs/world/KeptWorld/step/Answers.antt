use Rattle.hx_core.specs.Steps.{EventAsksFor}
use Rattle.hx_core.proofs.StepLemmas.{unasked_counts}
use Rattle.hx_core.proofs.world.KeptWorld.step.Goals as goal

pub returns-in-Conn-clause-large : goal.returns-in-Conn-clause-large
returns-in-Conn-clause-large g c =
    unasked_counts c.open.result (EventAsksFor c.args.self.now.world c.args.event.now)
    (g.M.ReMaker.state c.args.maker.now) c.open.ensures.kind

pub returns-in-Close-clause-large : goal.returns-in-Close-clause-large
returns-in-Close-clause-large g c =
    unasked_counts c.close.result (EventAsksFor c.args.self.now.world c.args.event.now)
    (g.M.ReMaker.state c.args.maker.now) c.close.ensures.kind

pub returns-in-Conn-clause-steps : goal.returns-in-Conn-clause-steps
returns-in-Conn-clause-steps g c =
    rw c.in-Conn.is (c.open.ensures.steps (g.J.Judge.telling c.args.judge.now))

pub returns-in-Close-clause-steps : goal.returns-in-Close-clause-steps
returns-in-Close-clause-steps g c =
    rw c.in-Close.is (c.close.ensures.steps (g.J.Judge.telling c.args.judge.now))

pub returns-in-Cli-clause-steps : goal.returns-in-Cli-clause-steps
returns-in-Cli-clause-steps g c =
    rw c.in-Cli.is
    (rw c.as_slice-in-Cli.ensures at (c.line.ensures.steps (g.J.Judge.telling c.args.judge.now)))
