use Rattle.std.proofs.Common.{arith, inl, inr}
use Rattle.std.proofs.Math.ListN.{drop_of_length-le}
use Rattle.hx_conv_text.specs.Captured.{captured}
use Rattle.hx_conv_text.proofs.SubstitutionLemmas.{plain_step}
use Rattle.hx_conv_text.proofs.substitution.append_expansion.Goals as goal
use Rattle.hx_conv_text.proofs.substitution.append_expansion.Goals.{then-b-ne92-via-then-b-ne92, then-b-ne92-via-else-b-ne92+then-at-sub}

pub loop-at-preserved-then-b-ne92 : goal.loop-at-preserved-then-b-ne92
loop-at-preserved-then-b-ne92 c =
    let sub = c.args.sub.now in
    plain_step (captured c.args.captures.now) sub c.loop-at.at c.loop-at.made.items c.push.new.self.items _
    c.loop-at-test.true
    (elim c.then-b-ne92.branch [
      | then-b-ne92-via-then-b-ne92 w ↦ inl w.if-b-ne92.true
      | then-b-ne92-via-else-b-ne92+then-at-sub w ↦ inr (drop_of_length-le sub (omega (arith, w.if-at-sub.true)))
    ])
    c.in_ok-push.ensures.items c.loop-at.invariant
