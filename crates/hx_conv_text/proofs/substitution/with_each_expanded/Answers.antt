use Rattle.std.proofs.Common.{◌-◌, ◌++◌, refl, ap, ◌∙◌, arith}
use Rattle.std.proofs.lemmas.List.{take_rest}
use Rattle.regex.specs.Bytes.{matcher_pattern}
use Rattle.hx_conv_text.proofs.ExpandedLemmas.{ends_later, last_written, none_at_all, nothing_written, one_written}
use Rattle.hx_conv_text.proofs.substitution.with_each_expanded.Goals as goal

pub loop-made-init : goal.loop-made-init
loop-made-init c =
    let re = matcher_pattern c.args.matcher.now in
    (refl, rw c.new-made.ensures.items (nothing_written c.args.sub.now c.args.input.now re))

pub loop-made-smaller : goal.loop-made-smaller
loop-made-smaller c =
    let found = rw (c.in-Some.is, c.loop-made.invariant.0) at c.in_ok-end.ensures.found in
    let lies = ends_later c.args.sub.now c.args.input.now (matcher_pattern c.args.matcher.now) c.loop-made.after c.in-Some.end found in
    omega (arith, lies.0, lies.1)

pub loop-made-preserved : goal.loop-made-preserved
loop-made-preserved c =
    let found = rw (c.in-Some.is, c.loop-made.invariant.0) at c.in_ok-end.ensures.found in
    let made = rw c.loop-made.invariant.0 at c.in_ok-end.ensures.made in (
      c.in_ok-end.ensures.same ∙ c.loop-made.invariant.0,
      one_written c.args.sub.now c.args.input.now (matcher_pattern c.args.matcher.now) c.loop-made.after c.in-Some.end _ _
          c.loop-made.invariant.1 found made,
    )

pub returns-then-after-eq0-clause-value : goal.returns-then-after-eq0-clause-value
returns-then-after-eq0-clause-value c =
    let found = rw (c.in_default.is, c.loop-made.invariant.0, c.if-after-eq0.true) at c.in_ok-end.ensures.found in
    none_at_all c.args.sub.now c.args.input.now (matcher_pattern c.args.matcher.now) found

pub returns-clause-value : goal.returns-clause-value
returns-clause-value c =
    let sub = c.args.sub.now in
    let input = c.args.input.now in
    let re = matcher_pattern c.args.matcher.now in
    let found = rw (c.in_default.is, c.loop-made.invariant.0) at c.in_ok-end.ensures.found in
    let made = rw c.loop-made.invariant.0 at c.in_ok-end.ensures.made in
    c.from_vec.ensures ∙ c.in_ok-extend_from_slice.ensures.items
    ∙ ap (λ l. c.write_next.new.made.items ++ l) (take_rest input (c.loop-made.after - 1))
    ∙ last_written sub input re c.loop-made.after _ _ c.loop-made.invariant.1 found made
