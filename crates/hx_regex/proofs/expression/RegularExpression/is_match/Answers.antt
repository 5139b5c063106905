use Rattle.regex.specs.Bytes.{matcher_pattern}
use Rattle.hx_regex.proofs.SearchLemmas.{found}
use Rattle.hx_regex.proofs.expression.RegularExpression.is_match.Goals as goal

pub returns-in-Fresh : goal.returns-in-Fresh
returns-in-Fresh c =
    let is = rw c.in-Fresh.is at c.in_ok-matcher.ensures in
    rw (c.is_match.ensures.found, c.deref_mut.ensures.value)
    (found c.args.self.now (matcher_pattern c.in-Fresh.matcher.value) c.args.bytes.now
    (λ k. (c.type_inv.bytes k).fits) is)

pub returns-in-Kept : goal.returns-in-Kept
returns-in-Kept c =
    let is = rw c.in-Kept.is at c.in_ok-matcher.ensures in
    rw (c.is_match-hit.ensures.found, c.deref_mut-in-Kept.ensures.value)
    (found c.args.self.now (matcher_pattern c.in-Kept.kept.matcher.value) c.args.bytes.now
    (λ k. (c.type_inv.bytes k).fits) (is.1))
