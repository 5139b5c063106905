-- Whole numbers as decimal texts.
use Rattle.std.specs.Prelude.{ℕ, ◌-◌, ◌^◌, ℤ, pos, neg_ℤ, List, [], ◌∷◌, length, Option, Some, None, option_map, option_and_then, ◌&&◌, ◌==◌, nat_lt, nat_le, if◌then◌else◌}
use Rattle.std.specs.Str.{all_ascii_digits}
use Rattle.std.specs.Str.Parse.{digits_value}
use Rattle.hx_base.specs.Bytes.{ascii}

-- the number that a text of decimal digits writes: one digit or more, and nothing else. Zeros may
-- lead.
unfoldable pub number_of : List ℕ → Option ℕ
number_of text =
    if nat_lt 0 (length text) && all_ascii_digits text then Some (digits_value 10 text) else None

-- the same of a number of at most so much
unfoldable pub number_up_to : ℕ → List ℕ → Option ℕ
number_up_to most text =
    option_and_then (λ n. if nat_le n most then Some n else None) (number_of text)

-- The number of 64 bits and a sign that a text writes: digits, with a minus sign before them or
-- none. After the sign they write at most 2^63, and without it at most 2^63 - 1.
unfoldable pub int_of : List ℕ → Option ℤ
int_of [] = None
int_of (first ∷ rest) =
    if first == ascii "-" then option_map (λ n. neg_ℤ (pos n)) (number_up_to (2 ^ 63) rest)
    else option_map pos (number_up_to (2 ^ 63 - 1) (first ∷ rest))
