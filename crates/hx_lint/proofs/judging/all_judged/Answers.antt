use Rattle.std.proofs.Common.{◌+◌, refl, arith}
use Rattle.std.specs.Option.{option_copied}
use Rattle.hx_base.specs.Pairs.{pairs_of}
use Rattle.hx_lint.specs.Judging.{all_judged}
use Rattle.hx_lint.specs.Texts.{texts_left}
use Rattle.hx_lint.proofs.JudgingLemmas.{known_kept, lines_kept}
use Rattle.hx_lint.proofs.judging.all_judged.Goals as goal

pub lines-init : goal.lines-init
unfolding all_judged
lines-init c = record {
  lines = rw (c.new-lines.ensures.items, c.in_ok-speller.ensures) refl;
  counted = omega arith;
  known = rw c.new-lines.ensures.items c.in_ok-speller.ensures;
}

pub lines-preserved : goal.lines-preserved
lines-preserved c =
    let left = rw (c.in-Some.is, c.first_text.ensures.texts) at c.lines.invariant.lines in
    let counted = rw c.in-Some.is at c.lines.invariant.counted in
    record {
      lines = lines_kept (pairs_of c.args.env.now) (c.lines.number + 1) c.first_text.result.0.now (texts_left (option_copied c.first_text.result.1)) c.lines.lines.items _ c.lines.speller _ c.in_ok-judgement.judgement _ left c.in_ok-judgement.ensures c.in_ok-push.ensures.items;
      counted = omega (arith, counted, c.first_text.ensures.shorter);
      known = rw c.in_ok-push.ensures.items (known_kept (pairs_of c.args.env.now) (c.lines.number + 1) c.first_text.result.0.now c.lines.lines.items c.lines.speller _ c.in_ok-judgement.judgement c.lines.invariant.known c.in_ok-judgement.ensures);
    }
