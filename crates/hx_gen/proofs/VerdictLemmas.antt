-- The verdict in a line, by its first two words.
use Rattle.std.proofs.Common.{◌≡◌, ◌-◌, ◌^◌, ◌&&◌, ℕ, List, ◌∷◌, is_some}
use Rattle.std.specs.Str.{bytes_eq}
use Rattle.hx_base.specs.Bytes.{ascii}
use Rattle.hx_text.specs.Cut.{pieces}
use Rattle.hx_text.specs.Number.{number_up_to}
use Rattle.hx_gen.specs.Summary.{has_verdict}

pub by_words : (verdict line number word rest : List ℕ) (words : List (List ℕ))
    → pieces (ascii " ") line ≡ number ∷ pieces (ascii " ") rest
    → pieces (ascii " ") rest ≡ word ∷ words
    → has_verdict verdict line
    ≡ (is_some (number_up_to (2 ^ 64 - 1) number) && bytes_eq word verdict)
by_words verdict line number word rest words cut of_rest = rw (cut, of_rest)
