-- Laws of the answers of an outcome up to an end.
use Rattle.std.proofs.Common.{◌≡◌, ℕ, List, [], ◌++◌, Option, None, Some, option_map, sym, ◌∙◌, ap, append-nil, append_assoc}
use Rattle.hx_replay.specs.Gathering.{AreAnswersTo}
use Rattle.hx_replay.specs.Outcome.{Outcome, with_end}

-- the answers to any end are a prefix of the outcome's
pub prefix_of : {E : Type 0} → (end : Option E) (outcome : Outcome E) (answers : List ℕ) → AreAnswersTo end outcome answers
    → (rest : List ℕ) × (outcome.answers ≡ answers ++ rest)
prefix_of None outcome answers are = are
prefix_of (Some end) outcome answers are = ([], are.1 ∙ sym (append-nil answers))

-- so are fewer of them
pub shorter_prefix : {E : Type 0} → (end : Option E) (outcome : Outcome E) (answers first last : List ℕ) → AreAnswersTo end outcome answers
    → answers ≡ first ++ last → AreAnswersTo None outcome first
shorter_prefix end outcome answers first last are cut =
    let (rest, is) = prefix_of end outcome answers are in
    (last ++ rest, is ∙ ap (λ text. text ++ rest) cut ∙ append_assoc first last rest)

-- they are the answers to the end that is told instead
pub answers_with_end : {E F : Type 0} → (f : E → F) (end : Option E) (outcome : Outcome E) (answers : List ℕ) → AreAnswersTo end outcome answers
    → AreAnswersTo (option_map f end) (with_end f outcome) answers
answers_with_end f None outcome answers are = are
answers_with_end f (Some end) outcome answers are = (ap (λ found. option_map f found) are.0, are.1)
