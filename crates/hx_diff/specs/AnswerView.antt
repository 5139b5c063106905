-- Views of the code: an answer as it is lent, and the last line of a text.
use Rattle.std.specs.Prelude.{◌≡◌, ◌⊎◌, ℕ, ◌==◌, false, List, [], ◌∷◌, ◌++◌}
use Rattle.std.specs.List.{list_any}
use Rattle.hx_base.specs.Bytes.{ascii}
use Rattle.hx_diff.specs.AnswerParts.{AnswerParts}
use Rattle.hx_diff.specs.declared.detailed_answer.DetailedAnswer.{DetailedAnswer}

-- an answer that is lent
abbrev pub parts_of : DetailedAnswer → AnswerParts
parts_of answer = record { answer = answer.answer.now; shown = answer.shown.now }

-- a text that ends with a line feed, or is empty
abbrev pub AreLines : List ℕ → Type 0
AreLines text = (text ≡ []) ⊎ (others : List ℕ) × (text ≡ others ++ ascii "\n" ∷ [])

abbrev pub LacksLineFeed : List ℕ → Type 0
LacksLineFeed text = list_any (λ b. b == ascii "\n") text ≡ false

-- a text is these lines and one more
pub record HasLastLine (lines text : List ℕ) : Type 0 where
  pub are_lines : AreLines lines
  pub last : List ℕ
  pub lacks : LacksLineFeed last
  pub whole : text ≡ lines ++ (last ++ ascii "\n" ∷ [])
