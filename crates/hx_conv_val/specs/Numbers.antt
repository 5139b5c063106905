-- Arithmetic on integers of 64 bits with a sign: the exact result, and where that is none of them,
-- the nearest.
use Rattle.std.specs.Prelude.{◌-◌, ◌^◌, ◌%◌, ◌==◌, ℤ, pos, neg_ℤ, int_div, int_rem, unsigned_abs, Bool, if◌then◌else◌}
use Rattle.std.specs.Int.{w64, saturate_signed}
use Rattle.std.specs.Ordering.{int_eq}

abbrev pub least_int : ℤ
least_int = neg_ℤ (pos (2 ^ 63))

abbrev pub is_zero : ℤ → Bool
is_zero n = int_eq n (pos 0)

-- divisible by 2
abbrev pub is_even : ℤ → Bool
is_even n = unsigned_abs n % 2 == 0

-- the result of an operation, or the nearest integer of 64 bits with a sign
abbrev pub saturating : (ℤ → ℤ → ℤ) → ℤ → ℤ → ℤ
saturating operation n m = saturate_signed w64 (operation n m)

-- rounded toward zero; the greatest integer for the divisor 0
abbrev pub quotient_of : ℤ → ℤ → ℤ
quotient_of n m = if is_zero m then pos (2 ^ 63 - 1) else saturating int_div n m

-- the remainder of that division, which has the sign of the dividend; 0 for the divisor 0
abbrev pub remainder_of : ℤ → ℤ → ℤ
remainder_of n m = if is_zero m then pos 0 else int_rem n m
