use Rattle.std.proofs.Common.{◌≢◌, ◌+◌, ◌<◌, length, slice_index, sym, ◌∙◌, subst, arith}
use Rattle.hx_sample.specs.Keys.{folded}
use Rattle.hx_match.specs.Needles.{IsCandidate}
use Rattle.hx_match.proofs.PlaceLemmas.{first_candidate, folded_at, folded_length, found_never, one_more, passed}
use Rattle.hx_match.proofs.search.next_place.Goals as goal

pub loop-count-init : goal.loop-count-init
loop-count-init c =
    first_candidate (folded c.args.ci c.args.text.now) c.args.key.now c.args.start c.args.matched c.requires.begins

pub returns-then-at-text : goal.returns-then-at-text
returns-then-at-text c =
    found_never (folded c.args.ci c.args.text.now) c.args.key.now c.args.start c.skip-place.result c.loop-count.count
    (c.skip-place.ensures.candidate c.args.start c.loop-count.invariant)
    c.loop-count-test.true
    (omega (arith, c.if-at-text.true, folded_length c.args.ci c.args.text.now))

pub loop-count-preserved-then-fold-key : goal.loop-count-preserved-then-fold-key
loop-count-preserved-then-fold-key c =
    let text = c.args.text.now in
    let at = c.skip-place.result + c.loop-count.count in
    let fits : at < length text = omega (arith, c.skip-place.ensures.within, c.if-at-text.false) in
    one_more (folded c.args.ci text) c.args.key.now c.args.start c.skip-place.result c.loop-count.count
    (c.skip-place.ensures.candidate c.args.start c.loop-count.invariant)
    c.loop-count-test.true
    (omega (arith, fits, folded_length c.args.ci text))
    (folded_at c.args.ci text at fits ∙ sym c.fold.ensures ∙ c.if-fold-key.true)

pub loop-count-preserved : goal.loop-count-preserved
loop-count-preserved c =
    let text = c.args.text.now in
    let at = c.skip-place.result + c.loop-count.count in
    let period = slice_index c.args.periods.now c.loop-count.count in
    let fits : at < length text = omega (arith, c.skip-place.ensures.within, c.if-at-text.false) in
    let other : slice_index (folded c.args.ci text) at ≢ slice_index c.args.key.now c.loop-count.count =
    λ same. c.if-fold-key.false (c.fold.ensures ∙ sym (folded_at c.args.ci text at fits) ∙ same) in
    subst (λ n. IsCandidate (folded c.args.ci text) c.args.key.now c.args.start (c.skip-place.result + period) n)
    (sym c.saturating_sub-count.ensures)
    (passed (folded c.args.ci text) c.args.key.now c.args.start c.skip-place.result c.loop-count.count period
    (c.skip-place.ensures.candidate c.args.start c.loop-count.invariant)
    (c.requires.periods.each c.loop-count.count (omega (arith, c.loop-count-test.true, c.requires.periods.count)))
    c.loop-count-test.true
    (omega (arith, fits, folded_length c.args.ci text))
    other)
