use Rattle.std.proofs.Common.{◌≡◌, true, false, take, sym, ◌∙◌, subst, arith}
use Rattle.hx_lint.specs.Judging.{go_on}
use Rattle.hx_lint.proofs.JudgingLemmas.{right_below, right_here, shown_at}
use Rattle.hx_lint.proofs.refused_word.refused_word.Goals as goal

pub returns-then-goes_on-clause-word : goal.returns-then-goes_on-clause-word
returns-then-goes_on-clause-word c =
    let goes : go_on c.args.number c.args.code (take c.loop-count.count c.args.words.now) c.args.speller.now ≡ true =
    subst (λ k. go_on c.args.number c.args.code (take c.loop-count.count c.args.words.now) k ≡ true) (sym c.requires.known) (sym c.in_ok-goes_on.ensures.answer ∙ c.if-goes_on.true) in
    shown_at c.word_shown.result c.args.words.now c.loop-count.count _ c.word_shown.ensures
    (sym c.loop-count.invariant.same ∙ right_here c.args.number c.args.code c.args.words.now c.args.speller.now c.loop-count.count c.loop-count-test.true goes)

pub loop-count-preserved : goal.loop-count-preserved
loop-count-preserved c =
    let goes : go_on c.args.number c.args.code (take c.loop-count.count c.args.words.now) c.args.speller.now ≡ false =
    subst (λ k. go_on c.args.number c.args.code (take c.loop-count.count c.args.words.now) k ≡ false) (sym c.requires.known) (sym c.in_ok-goes_on.ensures.answer ∙ c.if-goes_on.false) in
    record {
      within = omega (arith, c.loop-count.invariant.within);
      kept = c.in_ok-goes_on.ensures.kept ∙ sym c.requires.known;
      same = right_below c.args.number c.args.code c.args.words.now c.args.speller.now c.loop-count.count c.loop-count-test.true goes ∙ c.loop-count.invariant.same;
    }
