-- The size of a generated input: how many requests its record has, and how many lines each of its
-- two long files.
use Rattle.std.specs.Prelude.{ℕ, ◌≤◌, Option, None, Some, List, nat_le, option_and_then, if◌then◌else◌}
use Rattle.hx_text.specs.Number.{number_up_to}

abbrev pub greatest_size : ℕ
greatest_size = 200000

abbrev pub IsSize : ℕ → Type 0
IsSize n = (1 ≤ n) × (n ≤ greatest_size)

-- the size that a word writes: one decimal digit or more, of which the first ones may be zeros
abbrev pub size_of : List ℕ → Option ℕ
size_of word =
    option_and_then (λ n. if nat_le 1 n then Some n else None) (number_up_to greatest_size word)
