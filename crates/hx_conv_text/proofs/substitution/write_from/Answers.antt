use Rattle.std.proofs.Common.{◌≡◌, ℕ, ◌++◌, ◌-◌, ◌≤◌, sym, ap, ap₂, ◌∙◌, arith, append_assoc, slice_range}
use Rattle.regex.specs.Bytes.{match_span, matcher_pattern}
use Rattle.hx_conv_text.specs.Substitution.{expansion_at}
use Rattle.hx_conv_text.specs.Writing.{written_at}
use Rattle.hx_conv_text.proofs.ExpandedLemmas.{begins_later, end_found, ends_within, skipped, writes}
use Rattle.hx_conv_text.proofs.SubstitutionLemmas.{expansion-captured, whole_span}
use Rattle.hx_conv_text.proofs.substitution.write_from.Goals as goal

pub returns-then-end-after-clause-found : goal.returns-then-end-after-clause-found
returns-then-end-after-clause-found c =
    let (m, is, shown) = c.in-Some.ensures.found in
    let whole = whole_span c.args.input.now m c.in-Some.captures (match_span c.get_match-found.result) shown
    c.get_match-found.ensures.found in
    end_found (match_span c.get_match-found.result) m _ _ c.end-then-end-after.ensures whole is

pub returns-then-end-after-clause-made : goal.returns-then-end-after-clause-made
returns-then-end-after-clause-made c =
    let (m, is, shown) = c.in-Some.ensures.found in
    let whole = whole_span c.args.input.now m c.in-Some.captures (match_span c.get_match-found.result) shown
    c.get_match-found.ensures.found in
    let ends : c.end.result ≡ m.trace.end = c.end.ensures ∙ ap (λ (t : ℕ × ℕ). t.1) whole in
    skipped c.args.sub.now c.args.input.now c.args.after m _ c.args.made.now.items
    (omega (arith, ends, c.if-end-after.true)) is

pub slice_bounds-extend_from_slice-count : goal.slice_bounds-extend_from_slice-count
slice_bounds-extend_from_slice-count c =
    let (m, is, shown) = c.in-Some.ensures.found in
    let whole = whole_span c.args.input.now m c.in-Some.captures (match_span c.get_match-found.result) shown
    c.get_match-found.ensures.found in
    begins_later c.args.sub.now c.args.input.now (matcher_pattern c.args.matcher.now) c.args.after c.args.from _ _
    (match_span c.get_match-found.result) m c.requires.begins c.saturating_sub-last.ensures c.start.ensures whole is

pub slice_bounds-extend_from_slice-start : goal.slice_bounds-extend_from_slice-start
slice_bounds-extend_from_slice-start c =
    let (m, is, shown) = c.in-Some.ensures.found in
    let whole = whole_span c.args.input.now m c.in-Some.captures (match_span c.get_match-found.result) shown
    c.get_match-found.ensures.found in
    begins_later c.args.sub.now c.args.input.now (matcher_pattern c.args.matcher.now) c.args.after c.args.from _ _
    (match_span c.get_match-found.result) m c.requires.begins c.saturating_sub-last.ensures c.start.ensures whole is

pub returns-in_ok-append_expansion-in-Some-clause-found : goal.returns-in_ok-append_expansion-in-Some-clause-found
returns-in_ok-append_expansion-in-Some-clause-found c =
    let (m, is, shown) = c.in-Some.ensures.found in
    let whole = whole_span c.args.input.now m c.in-Some.captures (match_span c.get_match-found.result) shown
    c.get_match-found.ensures.found in
    end_found (match_span c.get_match-found.result) m _ _ c.end-in-Some.ensures whole is

pub returns-in_ok-append_expansion-in-Some-clause-made : goal.returns-in_ok-append_expansion-in-Some-clause-made
returns-in_ok-append_expansion-in-Some-clause-made c =
    let sub = c.args.sub.now in
    let input = c.args.input.now in
    let after = c.args.after in
    let made = c.args.made.now.items in
    let captures = c.in-Some.captures in
    let (m, is, shown) = c.in-Some.ensures.found in
    let whole = whole_span input m captures (match_span c.get_match-found.result) shown c.get_match-found.ensures.found in
    let ends : c.end.result ≡ m.trace.end = c.end.ensures ∙ ap (λ (t : ℕ × ℕ). t.1) whole in
    let starts : c.start.result ≡ m.start = c.start.ensures ∙ ap (λ (t : ℕ × ℕ). t.0) whole in
    let more : after ≤ m.trace.end = omega (arith, ends, c.if-end-after.false) in
    let piece = slice_range input (after - 1) m.start in
    let copied = c.in_ok-extend_from_slice-in-Some.ensures.items
    ∙ ap₂ ◌++◌ c.in_ok-reserve-in-Some.ensures.items
    (ap₂ (slice_range input) c.saturating_sub-last.ensures starts) in
    c.in_ok-append_expansion-in-Some.ensures
    ∙ ap₂ ◌++◌ copied (expansion-captured sub input m captures shown)
    ∙ append_assoc made piece (expansion_at sub input m)
    ∙ ap (λ l. made ++ l) (sym (writes sub input after m more))
    ∙ ap (λ o. made ++ written_at sub input after o) (sym is)

pub returns-then-end-after-clause-within : goal.returns-then-end-after-clause-within
returns-then-end-after-clause-within c =
    let (m, is, shown) = c.in-Some.ensures.found in
    let whole = whole_span c.args.input.now m c.in-Some.captures (match_span c.get_match-found.result) shown
    c.get_match-found.ensures.found in
    ends_within c.args.sub.now c.args.input.now (matcher_pattern c.args.matcher.now) c.args.from _
    (end_found (match_span c.get_match-found.result) m _ _ c.end-then-end-after.ensures whole is)

pub returns-in_ok-append_expansion-in-Some-clause-within : goal.returns-in_ok-append_expansion-in-Some-clause-within
returns-in_ok-append_expansion-in-Some-clause-within c =
    let (m, is, shown) = c.in-Some.ensures.found in
    let whole = whole_span c.args.input.now m c.in-Some.captures (match_span c.get_match-found.result) shown
    c.get_match-found.ensures.found in
    ends_within c.args.sub.now c.args.input.now (matcher_pattern c.args.matcher.now) c.args.from _
    (end_found (match_span c.get_match-found.result) m _ _ c.end-in-Some.ensures whole is)
