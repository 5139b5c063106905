use Rattle.std.proofs.Common.{arith, ◌∙◌}
use Rattle.hx_index.specs.Items.{without_node}
use Rattle.hx_index.proofs.ItemLemmas.{in_left, leaves_more}
use Rattle.hx_index.proofs.HoldingLemmas.{apart_frame}
use Rattle.hx_index.proofs.index.Index.dismantle.Goals as goal

pub loop-taken-preserved : goal.loop-taken-preserved
loop-taken-preserved g c = record {
  holds = λ items h.
      let l = c.loop-taken.invariant.holds items h in
      let s = c.drop_any.ensures.some l.0 c.in-Some.field-0 l.1 c.in-Some.is in
      (without_node c.in-Some.field-0 l.0, s.1, leaves_more c.loop-taken.taken items l.0 c.in-Some.field-0 l.2 l.1.distinct s.0);
  others = λ items h k away.
      let l = c.loop-taken.invariant.holds items h in
      c.drop_any.ensures.others l.0 l.1 k (λ there. away (in_left c.loop-taken.taken items l.0 k l.2 there)) ∙ c.loop-taken.invariant.others items h k away;
  spare = omega (arith, c.drop_any.ensures.spare c.in-Some.field-0 c.in-Some.is, c.loop-taken.invariant.spare);
  live = omega (arith, c.drop_any.ensures.live c.in-Some.field-0 c.in-Some.is, c.loop-taken.invariant.live);
  cost = omega (arith, c.drop_any.ensures.cost, c.loop-taken.invariant.cost);
  method_is = c.drop_any.ensures.method ∙ c.loop-taken.invariant.method_is;
  case_is = c.drop_any.ensures.case ∙ c.loop-taken.invariant.case_is;
}

pub returns-in-None-clause-other_indexes : goal.returns-in-None-clause-other_indexes
returns-in-None-clause-other_indexes g c items others other h at apart =
    apart_frame c.args.nodes.now c.drop_any.new.nodes other others items apart
    (λ k away.
    let l = c.loop-taken.invariant.holds items h in
    c.drop_any.ensures.others l.0 l.1 k (λ there. away (in_left c.loop-taken.taken items l.0 k l.2 there)) ∙ c.loop-taken.invariant.others items h k away) at

pub returns-clause-other_indexes : goal.returns-clause-other_indexes
returns-clause-other_indexes g c items others other h at apart =
    apart_frame c.args.nodes.now c.loop-taken.nodes other others items apart (c.loop-taken.invariant.others items h) at
