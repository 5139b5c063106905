use Rattle.std.proofs.Common.{◌≡◌, ◌++◌, refl, sym, ap, ◌∙◌, append-nil}
use Rattle.regex.specs.Bytes.{matcher_pattern}
use Rattle.hx_conv_text.proofs.ExpandedLemmas.{empty_next, empty_writes, found_next, none_after_end, none_next, none_writes}
use Rattle.hx_conv_text.proofs.substitution.write_next.Goals as goal

pub returns-then-after-input-clause-found : goal.returns-then-after-input-clause-found
returns-then-after-input-clause-found c =
    rw (none_after_end c.args.sub.now c.args.input.now (matcher_pattern c.args.matcher.now)
    c.args.after c.if-after-input.true) refl

pub returns-then-after-input-clause-made : goal.returns-then-after-input-clause-made
returns-then-after-input-clause-made c =
    rw (none_after_end c.args.sub.now c.args.input.now (matcher_pattern c.args.matcher.now) c.args.after c.if-after-input.true)
    (sym (append-nil c.args.made.now.items))

pub returns-in_default-clause-found : goal.returns-in_default-clause-found
returns-in_default-clause-found c =
    let found = rw (c.in_default.is, c.saturating_sub-last.ensures) at c.in_ok-end.ensures.found in
    rw (none_next c.args.sub.now c.args.input.now (matcher_pattern c.args.matcher.now) c.args.after found) refl

pub returns-in_default-clause-made : goal.returns-in_default-clause-made
returns-in_default-clause-made c =
    let found = rw (c.in_default.is, c.saturating_sub-last.ensures) at c.in_ok-end.ensures.found in
    let made = rw c.saturating_sub-last.ensures at c.in_ok-end.ensures.made in
    made
    ∙ ap (λ l. c.args.made.now.items ++ l)
    (none_writes c.args.sub.now c.args.input.now (matcher_pattern c.args.matcher.now) c.args.after found)

pub returns-then-end-after-clause-found : goal.returns-then-end-after-clause-found
returns-then-end-after-clause-found c =
    let found = rw (c.in-Some.is, c.saturating_sub-last.ensures) at c.in_ok-end.ensures.found in
    let later = rw c.in_ok-end.ensures.same at c.write_from-then-end-after.ensures.found in
    rw (empty_next c.args.sub.now c.args.input.now (matcher_pattern c.args.matcher.now) c.args.after c.in-Some.end found c.if-end-after.true) later

pub returns-then-end-after-clause-made : goal.returns-then-end-after-clause-made
returns-then-end-after-clause-made c =
    let sub = c.args.sub.now in
    let input = c.args.input.now in
    let re = matcher_pattern c.args.matcher.now in
    let made = c.args.made.now.items in
    let found = rw (c.in-Some.is, c.saturating_sub-last.ensures) at c.in_ok-end.ensures.found in
    let kept : c.write_from.new.made.items ≡ made =
    (rw c.saturating_sub-last.ensures at c.in_ok-end.ensures.made)
    ∙ ap (λ l. made ++ l) (empty_writes sub input re c.args.after c.in-Some.end found c.if-end-after.true)
    ∙ append-nil made in
    let later = rw (c.in_ok-end.ensures.same, kept) at c.write_from-then-end-after.ensures.made in
    rw (empty_next sub input re c.args.after c.in-Some.end found c.if-end-after.true) later

pub returns-clause-found : goal.returns-clause-found
returns-clause-found c =
    let found = rw (c.in-Some.is, c.saturating_sub-last.ensures) at c.in_ok-end.ensures.found in
    rw (found_next c.args.sub.now c.args.input.now (matcher_pattern c.args.matcher.now) c.args.after c.in-Some.end found c.if-end-after.false) found

pub returns-clause-made : goal.returns-clause-made
returns-clause-made c =
    let found = rw (c.in-Some.is, c.saturating_sub-last.ensures) at c.in_ok-end.ensures.found in
    let made = rw c.saturating_sub-last.ensures at c.in_ok-end.ensures.made in
    rw (found_next c.args.sub.now c.args.input.now (matcher_pattern c.args.matcher.now) c.args.after c.in-Some.end found c.if-end-after.false) made
