use Rattle.std.proofs.Common.{◌≡◌, List, ℕ, ◌∷◌, Some, ap, sym, ◌∙◌}
use Rattle.std.proofs.lemmas.Result.{IfOk-weaker}
use Rattle.hx_cli.specs.Commands.{command_by, command_of}
use Rattle.hx_cli.proofs.CommandLemmas.{command_of_kind}
use Rattle.hx_cli.proofs.reading.command_of.Goals as goal

pub returns-in-Some-kind_of_word : goal.returns-in-Some-kind_of_word
returns-in-Some-kind_of_word c =
    let verb = c.in-Some.verb.now in
    let kind = c.in-Some-split_first.kind.now in
    let rest = c.in-Some-split_first.words.now in
    let words : c.args.words.now ≡ verb ∷ kind ∷ rest =
    sym c.as_slice.ensures ∙ c.in-Some.ensures.cases.0
    ∙ ap (λ (ws : List (List ℕ)). verb ∷ ws) c.in-Some-split_first.ensures.cases.0 in
    IfOk-weaker c.command_by.result _ _
    (λ found is. is
    ∙ ap (λ (v : List ℕ). command_by v c.in-Some-kind_of_word.is_map rest) c.as_slice-in-Some-kind_of_word.ensures
    ∙ command_of_kind verb kind rest (Some c.in-Some-kind_of_word.is_map) (rw c.as_slice-2.ensures at c.in-Some-kind_of_word.ensures)
    ∙ ap command_of (sym words))
    c.command_by.ensures
