use Rattle.std.proofs.lemmas.Result.{on_err_weaker, on_ok_weaker}
use Rattle.hx_cli.proofs.PayloadLemmas.{line_not_taken, line_taken, none_taken}
use Rattle.hx_cli.proofs.payloads.Payloads.push_line.Goals as goal
use Rattle.hx_cli.proofs.payloads.Payloads.push_line.Goals.{in-Some, in-None}

pub returns-clause-ok : goal.returns-clause-ok
returns-clause-ok c =
    elim c.match-get_mut.branch [
      | in-Some w ↦
          rw (w.result-is, w.self-inside-is)
          (on_ok_weaker w.push_line.result
          (line_taken c.self.inside.payloads (c.get_mut.follows.lender w.push_line.new.self) c.args.self.now c.args.session c.args.text.now
          w.in-Some.payload.now w.push_line.new.self c.self.view_is w.in-Some.ensures.value (c.get_mut.follows.holds w.push_line.new.self))
          w.push_line.ensures.ok)
      | in-None w ↦
          rw w.result-is
          (λ payload given. absurd (none_taken c.self.inside.payloads c.args.self.now c.args.session payload c.self.view_is w.in-None.ensures.value given))
    ]

pub returns-clause-err : goal.returns-clause-err
returns-clause-err c =
    elim c.match-get_mut.branch [
      | in-Some w ↦
          rw (w.result-is, w.self-inside-is)
          (on_err_weaker w.push_line.result
          (line_not_taken c.self.inside.payloads (c.get_mut.follows.lender w.push_line.new.self) c.args.self.now c.args.session
          w.in-Some.payload.now w.push_line.new.self c.self.view_is w.in-Some.ensures.value (c.get_mut.follows.holds w.push_line.new.self))
          w.push_line.ensures.err)
      | in-None w ↦ rw w.result-is tt
    ]
