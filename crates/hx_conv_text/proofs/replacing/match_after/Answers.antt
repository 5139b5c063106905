use Rattle.std.proofs.Common.{◌+◌, arith, sym, ◌∙◌}
use Rattle.regex.specs.Bytes.{match_span, matcher_pattern}
use Rattle.hx_conv_text.proofs.FixedLemmas.{next_after_empty, next_found, next_none, none_past_end}
use Rattle.hx_conv_text.proofs.replacing.match_after.Goals as goal

pub returns-then-end-input-clause-found : goal.returns-then-end-input-clause-found
returns-then-end-input-clause-found c =
    none_past_end (matcher_pattern c.args.matcher.now) c.args.input.now (c.args.end + 1)
    (omega (arith, c.if-end-input.true))

pub returns-in_default-clause-found : goal.returns-in_default-clause-found
returns-in_default-clause-found c =
    next_none (matcher_pattern c.args.matcher.now) c.args.input.now c.args.end c.in_default.ensures.found

pub returns-then-end-clause-found : goal.returns-then-end-clause-found
returns-then-end-clause-found c =
    let later = rw c.in-Some.ensures.same at c.find_at-then-end.ensures.found in
    next_after_empty (matcher_pattern c.args.matcher.now) c.args.input.now c.args.end
    (match_span c.in-Some.found) _ c.in-Some.ensures.found (sym c.end.ensures ∙ c.if-end.true) later

pub returns-clause-found : goal.returns-clause-found
returns-clause-found c =
    next_found (matcher_pattern c.args.matcher.now) c.args.input.now c.args.end
    (match_span c.in-Some.found) c.in-Some.ensures.found
    (λ e. c.if-end.false (c.end.ensures ∙ e))
