use Rattle.std.proofs.Common.{ℕ, ◌+◌, Bool, Some, None, ap, subst, sym, ◌∙◌}
use Rattle.std.proofs.lemmas.List.{take_rest}
use Rattle.memchr.specs.Find.{IsFirstByte, is_byte2}
use Rattle.hx_lists.specs.NamedValues.{begins_params}
use Rattle.hx_lists.proofs.CutLemmas.{after_first-at, after_first-none, is_byte2-begins}
use Rattle.hx_lists.proofs.named.params_text.Goals as goal

pub returns-in-Some : goal.returns-in-Some
returns-in-Some c =
    let same = ap (is_byte2 63) c.unwrap_or.ensures ∙ is_byte2-begins c.args.delim in
    let found = subst (λ (test : ℕ → Bool). IsFirstByte test c.args.target.now
    (Some c.in-Some.at)) same c.in-Some.ensures in
    take_rest c.args.target.now (c.in-Some.at + 1)
    ∙ sym (after_first-at (begins_params c.args.delim) c.args.target.now c.in-Some.at found)

pub returns-in-None : goal.returns-in-None
returns-in-None c =
    let same = ap (is_byte2 63) c.unwrap_or.ensures ∙ is_byte2-begins c.args.delim in
    let absent = subst (λ (test : ℕ → Bool). IsFirstByte test c.args.target.now None) same c.in-None.ensures in
    sym (after_first-none (begins_params c.args.delim) c.args.target.now absent)
