use Rattle.std.proofs.Common.{◌≡◌, ◌+◌, ◌-◌, ◌&&◌, length, take, drop, sym, ap, ◌∙◌, subst}
use Rattle.std.specs.Prelude.{reverse}
use Rattle.hx_sample.specs.Keys.{folded, is_ended}
use Rattle.hx_match.specs.Needles.{IsComponentCandidate}
use Rattle.hx_match.specs.Read.{is_delim}
use Rattle.hx_match.proofs.ComponentLemmas.{between_folded}
use Rattle.hx_match.proofs.ComponentPlaceLemmas.{first_place, next_candidate, stands_delimited, stands_nowhere}
use Rattle.hx_match.proofs.components.has_delimited.Goals as goal

pub loop-place-init : goal.loop-place-init
loop-place-init c =
    first_place (is_delim c.args.delims) (folded c.args.ci c.args.text.now) c.args.part.now.bytes.items

pub returns-then-is_between : goal.returns-then-is_between
returns-then-is_between c =
    let is_delim = is_delim c.args.delims in
    let text = c.args.text.now in
    let part = c.args.part.now.bytes.items in
    let place = c.in-Some.place in
    let answer : c.is_between.result ≡ (is_ended is_delim (reverse (take place text)) && is_ended is_delim (drop (place + length part) text)) =
    subst (λ n. c.is_between.result ≡ (is_ended is_delim (reverse (take place text)) && is_ended is_delim (drop (place + n) text)))
    (ap length c.as_slice-bytes.ensures.value) c.is_between.ensures in
    stands_delimited is_delim (folded c.args.ci text) part place c.in-Some.ensures.1
    (between_folded c.args.delims c.args.ci text place (place + length part) ∙ sym answer ∙ c.if-is_between.true)

pub loop-place-preserved : goal.loop-place-preserved
loop-place-preserved c =
    let is_delim = is_delim c.args.delims in
    let text = c.args.text.now in
    let part = c.args.part.now.bytes.items in
    let place = c.in-Some.place in
    let period = c.period-period.result in
    let answer : c.is_between.result ≡ (is_ended is_delim (reverse (take place text)) && is_ended is_delim (drop (place + length part) text)) =
    subst (λ n. c.is_between.result ≡ (is_ended is_delim (reverse (take place text)) && is_ended is_delim (drop (place + n) text)))
    (ap length c.as_slice-bytes.ensures.value) c.is_between.ensures in
    subst (λ n. IsComponentCandidate is_delim (folded c.args.ci text) part (place + period) (n - period)) (sym (ap length c.as_slice-bytes.ensures.value))
    (next_candidate is_delim (folded c.args.ci text) part c.loop-place.start c.loop-place.matched place period
    c.loop-place.invariant c.requires.some c.in-Some.ensures c.period-period.ensures
    (between_folded c.args.delims c.args.ci text place (place + length part) ∙ sym answer ∙ c.if-is_between.false))

pub returns : goal.returns
returns c =
    stands_nowhere (is_delim c.args.delims) (folded c.args.ci c.args.text.now) c.args.part.now.bytes.items
    c.loop-place.start c.loop-place.matched c.loop-place.invariant c.in_default.ensures
