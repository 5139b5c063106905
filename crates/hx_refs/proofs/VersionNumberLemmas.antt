-- Numbers of versions, which wrap, and how far they are ahead of one another.
use Rattle.std.proofs.Common.{◌≡◌, ℕ, ◌+◌, ◌^◌, ◌<◌, ◌≤◌, arith}
use Rattle.std.specs.Prelude.{◌⊎◌}
use Rattle.std.proofs.lemmas.Bool.Decides.{nat_tests}
use Rattle.hx_refs.specs.VersionNumbers.{ahead, number_ahead}

-- how far a number is ahead, by whether numbers wrap between the two
ahead_is : (from number : ℕ) → from < 2 ^ 32
    → ((from ≤ number) × (from + ahead from number ≡ number))
    ⊎ ((number < from) × (from + ahead from number ≡ number + 2 ^ 32))
unfolding ahead
ahead_is from number fits = grind (arith, nat_tests)

-- the number that is so far ahead
number_is : (from distance : ℕ)
    → ((from + distance < 2 ^ 32) × (number_ahead from distance ≡ from + distance))
    ⊎ ((2 ^ 32 ≤ from + distance) × (number_ahead from distance + 2 ^ 32 ≡ from + distance))
unfolding number_ahead
number_is from distance = grind (arith, nat_tests)

pub ahead_self : (number : ℕ) → ahead number number ≡ 0
unfolding ahead
ahead_self number = grind (arith, nat_tests)

pub ahead_fits : (from number : ℕ) → from < 2 ^ 32 → number < 2 ^ 32 → ahead from number < 2 ^ 32
ahead_fits from number low high = grind (arith, ahead_is from number low)

pub number_fits : (from distance : ℕ) → from < 2 ^ 32 → distance < 2 ^ 32 → number_ahead from distance < 2 ^ 32
number_fits from distance low high = grind (arith, number_is from distance)

pub ahead_number : (from distance : ℕ) → from < 2 ^ 32 → distance < 2 ^ 32
    → ahead from (number_ahead from distance) ≡ distance
ahead_number from distance low high =
    grind (arith, number_is from distance, ahead_is from (number_ahead from distance) low)

pub number_back : (from number : ℕ) → from < 2 ^ 32 → number < 2 ^ 32
    → number_ahead from (ahead from number) ≡ number
number_back from number low high =
    grind (arith, ahead_is from number low, number_is from (ahead from number))

-- a number that isn't behind another is as far ahead of it as it was ahead of an earlier one, less what that was
pub ahead_on : (from middle number : ℕ) → from < 2 ^ 32 → middle < 2 ^ 32 → number < 2 ^ 32
    → ahead from middle ≤ ahead from number
    → ahead from middle + ahead middle number ≡ ahead from number
ahead_on from middle number low mid high le =
    grind (arith, ahead_is from middle low, ahead_is from number low, ahead_is middle number mid)

-- one that is behind it is ahead of it by nearly all numbers
pub ahead_behind : (from middle number : ℕ) → from < 2 ^ 32 → middle < 2 ^ 32 → number < 2 ^ 32
    → ahead from number < ahead from middle
    → ahead from middle + ahead middle number ≡ ahead from number + 2 ^ 32
ahead_behind from middle number low mid high lt =
    grind (arith, ahead_is from middle low, ahead_is from number low, ahead_is middle number mid)

-- the next number
pub ahead_next : (from number : ℕ) → from < 2 ^ 32 → number < 2 ^ 32 → ahead from number + 1 < 2 ^ 32
    → ahead from (number_ahead number 1) ≡ ahead from number + 1
ahead_next from number low high room =
    grind (arith, number_is number 1, ahead_is from number low, ahead_is from (number_ahead number 1) low)

-- so far ahead, and so far again
pub number_on : (from first second : ℕ) → from < 2 ^ 32 → first + second < 2 ^ 32
    → number_ahead (number_ahead from first) second ≡ number_ahead from (first + second)
number_on from first second low fits =
    grind (arith, number_is from first, number_is (number_ahead from first) second, number_is from (first + second))

-- no other number is ahead by nothing
pub ahead_apart : (from number : ℕ) → from < 2 ^ 32 → number < 2 ^ 32 → ahead from number ≡ 0 → number ≡ from
ahead_apart from number low high none = grind (arith, ahead_is from number low)
