use Rattle.std.proofs.Common.{◌≡◌, ◌++◌, ℕ, List, length, OnOk, sym, ap, subst, ◌∙◌}
use Rattle.std.proofs.lemmas.Bool.{eqb-false}
use Rattle.hx_cli.proofs.WordLemmas.{one_run}
use Rattle.hx_cli.proofs.words.end_word.Goals as goal

pub returns : goal.returns
returns c =
    let some = eqb-false (length c.as_slice.result.now) 0
    (sym c.is_empty.ensures ∙ c.if-is_empty.false) in
    subst (λ (ws : List (List ℕ)). OnOk c.push.result (c.push.new.self ≡ c.args.words.now ++ ws))
    (one_run c.args.word
    (λ none. some (ap (λ (w : List ℕ). length w) c.as_slice.ensures ∙ none)))
    c.push.ensures.ok
