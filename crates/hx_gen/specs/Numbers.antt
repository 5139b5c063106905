-- The numbers that a generated input is made of. A linear congruence goes from each to the next,
-- and the first is the size of the input.
use Rattle.std.specs.Prelude.{ℕ, zero, suc, ◌+◌, ◌*◌, ◌%◌, ◌^◌, List, flat_map}
use Rattle.std.specs.List.{range_with_len}

abbrev pub next_number : ℕ → ℕ
next_number x = (1103515245 * x + 12345) % 2 ^ 31

-- the number after this many steps from the first
abbrev pub random_number : ℕ → ℕ → ℕ
random_number first zero = first
random_number first (suc k) = next_number (random_number first k)

-- what there is for each of the numbers from 1 to n, in their order
abbrev pub for_each_to : {A : Type 0} → ℕ → (ℕ → List A) → List A
for_each_to n items = flat_map items (range_with_len 1 n)
