-- What is told of the answers to a generated input.
use Rattle.std.specs.Prelude.{ℕ, ◌-◌, ◌^◌, ◌&&◌, Bool, false, List, ◌∷◌, ◌++◌, codes, count_by, is_some, length}
use Rattle.std.specs.Fmt.{decimal}
use Rattle.std.specs.Str.{bytes_eq}
use Rattle.hex.specs.Hex.{encode_lower}
use Rattle.hx_base.specs.Bytes.{ascii}
use Rattle.hx_gen.specs.Record.{record_events}
use Rattle.hx_text.specs.Cut.{pieces}
use Rattle.hx_text.specs.Number.{number_up_to}
use Rattle.sha2.specs.Sha256.{sha256}

-- the words of a line begin with the number of a request and this verdict
abbrev pub begin_with_verdict : List ℕ → List (List ℕ) → Bool
begin_with_verdict verdict (number ∷ word ∷ rest) =
    is_some (number_up_to (2 ^ 64 - 1) number) && bytes_eq word verdict
begin_with_verdict verdict _ = false

-- the line tells this verdict of a request
abbrev pub has_verdict : List ℕ → List ℕ → Bool
has_verdict verdict line = begin_with_verdict verdict (pieces (ascii " ") line)

-- how many lines do
abbrev pub verdict_count : List ℕ → List ℕ → ℕ
verdict_count verdict answers = count_by (has_verdict verdict) (pieces (ascii "\n") answers)

-- The four lines: how many events there are, how many requests pass and how many are denied, and
-- the SHA-256 (FIPS 180-4) of the answers in hexadecimal digits.
abbrev pub summary_text : ℕ → List ℕ → List ℕ
summary_text n answers =
    codes "events " ++ (decimal (length (record_events n))
    ++ (codes "\npass " ++ (decimal (verdict_count (codes "pass") answers)
    ++ (codes "\ndeny " ++ (decimal (verdict_count (codes "deny") answers)
    ++ (codes "\nsha256 " ++ (encode_lower (sha256 answers) ++ codes "\n")))))))
