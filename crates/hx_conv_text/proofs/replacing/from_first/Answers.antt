use Rattle.std.proofs.Common.{◌++◌, refl, ap, ◌∙◌, append_assoc, slice_range}
use Rattle.std.proofs.lemmas.List.{take_rest}
use Rattle.regex.specs.Bytes.{match_span, matcher_pattern}
use Rattle.hx_conv_text.proofs.FixedLemmas.{all_replaced, begun, fewer_left, next_lies, one_more}
use Rattle.hx_conv_text.proofs.replacing.from_first.Goals as goal

pub loop-next-init : goal.loop-next-init
loop-next-init c =
    let re = matcher_pattern c.args.matcher.now in
    let start = begun re c.args.input.now c.args.text.now (match_span c.args.first) c.requires.first in
    (refl, c.requires.within, rw c.in_ok-made.ensures.items start)

pub slice_bounds-extend_from_slice-count : goal.slice_bounds-extend_from_slice-count
slice_bounds-extend_from_slice-count c =
    let is = rw c.in-Some.is at c.loop-next.invariant.2 in
    rw c.start.ensures (next_lies _ _ _ _ _ _ is).0

pub slice_bounds-extend_from_slice-start : goal.slice_bounds-extend_from_slice-start
slice_bounds-extend_from_slice-start c =
    let is = rw c.in-Some.is at c.loop-next.invariant.2 in
    rw c.start.ensures (next_lies _ _ _ _ _ _ is).0

pub loop-next-smaller : goal.loop-next-smaller
loop-next-smaller c =
    let is = rw c.in-Some.is at c.loop-next.invariant.2 in
    let found = rw (c.loop-next.invariant.0, c.end-last.ensures) at c.match_after-next.ensures.found in
    rw c.in-Some.is (fewer_left _ _ _ _ _ _ _ is found)

pub loop-next-preserved : goal.loop-next-preserved
loop-next-preserved c =
    let re = matcher_pattern c.args.matcher.now in
    let text = c.args.text.now in
    let input = c.args.input.now in
    let last = c.loop-next.last in
    let made = c.loop-next.made.items in
    let s = match_span c.in-Some.found in
    let is = rw c.in-Some.is at c.loop-next.invariant.2 in
    let found = rw (c.loop-next.invariant.0, c.end-last.ensures) at c.match_after-next.ensures.found in
    let copied = c.in_ok-extend_from_slice.ensures.items ∙ ap (λ n. made ++ slice_range input last n) c.start.ensures in
    let written = c.in_ok-append.ensures ∙ ap (λ l. l ++ text) copied
    ∙ append_assoc made (slice_range input last s.0) text in (
      c.match_after-next.ensures.same ∙ c.loop-next.invariant.0,
      c.match_after-next.ensures.within,
      rw c.end-last.ensures (one_more re input text last s made _ _ is written found),
    )

pub returns-clause-value : goal.returns-clause-value
returns-clause-value c =
    let re = matcher_pattern c.args.matcher.now in
    let text = c.args.text.now in
    let input = c.args.input.now in
    let last = c.loop-next.last in
    let made = c.loop-next.made.items in
    let is = rw c.in_default.is at c.loop-next.invariant.2 in
    c.in_ok-extend_from_slice-2.ensures.items ∙ ap (λ l. made ++ l) (take_rest input last)
    ∙ all_replaced re input text last made is
