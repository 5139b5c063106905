-- How many requests have the same two verdicts, where their answers differ.
use Rattle.std.specs.Prelude.{ℕ, Bool, ◌==◌, ◌&&◌, List, [], ◌∷◌, ◌++◌, codes, flat_map, if◌then◌else◌}
use Rattle.std.specs.Fmt.{decimal}
use Rattle.std.specs.List.{after_first, before_first}
use Rattle.std.specs.Str.{bytes_eq}
use Rattle.hx_base.specs.Bytes.{ascii}
use Rattle.hx_core.specs.Steps.{next_number}

-- the verdict in the answer to a request: its first line, without the number and the blank after it
abbrev pub verdict_in : List ℕ → List ℕ
verdict_in answer =
    after_first (λ b. b == ascii " ") (before_first (λ b. b == ascii "\n") answer)

-- The requests whose answers differ and that have these two verdicts: how many there are, and the
-- number of the first of them.
pub record Row : Type 0 where
  pub old_verdict : List ℕ
  pub new_verdict : List ℕ
  pub count : ℕ
  pub first : ℕ

abbrev pub has_verdicts : (old_verdict new_verdict : List ℕ) → Row → Bool
has_verdicts old_verdict new_verdict row =
    bytes_eq row.old_verdict old_verdict && bytes_eq row.new_verdict new_verdict

-- the rows with one request more, which has this number: it counts in the row of its verdicts, or
-- is the first of a new row below the others
abbrev pub with_request : (number : ℕ) → (old_verdict new_verdict : List ℕ) → List Row → List Row
with_request number old_verdict new_verdict [] =
    record { old_verdict = old_verdict; new_verdict = new_verdict; count = 1; first = number } ∷ []
with_request number old_verdict new_verdict (row ∷ rows) =
    if has_verdicts old_verdict new_verdict row
    then record row { count = next_number row.count } ∷ rows
    else row ∷ with_request number old_verdict new_verdict rows

-- `OLD -> NEW`; of two verdicts that are the same `VERDICT, other lines`
abbrev pub verdicts_text : (old_verdict new_verdict : List ℕ) → List ℕ
verdicts_text old_verdict new_verdict =
    if bytes_eq old_verdict new_verdict then old_verdict ++ codes ", other lines"
    else old_verdict ++ (codes " -> " ++ new_verdict)

-- `COUNT OLD -> NEW, first N` or `COUNT VERDICT, other lines, first N`, with a line feed
abbrev pub row_text : Row → List ℕ
row_text row =
    decimal row.count ++ (codes " " ++ (verdicts_text row.old_verdict row.new_verdict
    ++ (codes ", first " ++ (decimal row.first ++ codes "\n"))))

-- the lines of rows, in their order
abbrev pub rows_text : List Row → List ℕ
rows_text rows = flat_map row_text rows
