use Rattle.std.proofs.Common.{◌∙◌, ap, sym}
use Rattle.hx_rules.specs.Rewriting.{may_rewrite}
use Rattle.hx_core.specs.StepView.{WorldState}
use Rattle.hx_core.specs.Steps.{next_number, request_evaluation}
use Rattle.hx_core.specs.World.{World}
use Rattle.hx_core.proofs.VerdictLemmas.{answer_of_same_head}
use Rattle.hx_core.proofs.world.KeptWorld.answer_head.Goals as goal

pub returns-clause-text : goal.returns-clause-text
returns-clause-text g c =
    let made = request_evaluation c.args.self.now.world c.args.conn.now c.args.heads.now.read in
    let stays = c.judge.ensures.unchanged (sym (c.may_rewrite.ensures ∙ ap (λ (w : WorldState). may_rewrite w.world.rules) c.self.view_is) ∙ c.if-may_rewrite.false) in
    answer_of_same_head c.args.room.items c.append_verdict.new.bytes.items c.self-2.inside.requests (next_number c.args.self.now.world.requests) c.in_ok-verdict.verdict made.verdict c.args.heads.now.read made.state.message
    c.requires (ap (λ (w : WorldState). w.world.requests) c.self-2.view_is ∙ ap (λ (w : World). w.requests) c.in_ok-verdict.ensures.world) c.in_ok-verdict.ensures.verdict (sym c.in_ok-verdict.ensures.message ∙ stays) c.in_ok-append_verdict.ensures
