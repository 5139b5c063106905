-- Numbers of versions. They have 32 bits and wrap: the one after 2^32 - 1 is 0.
use Rattle.std.specs.Prelude.{ℕ, ◌+◌, ◌-◌, ◌^◌, ◌&&◌, nat_le, nat_lt, Bool, if◌then◌else◌}

-- how far a number is ahead of another
unfoldable pub ahead : ℕ → ℕ → ℕ
ahead from number = if nat_le from number then number - from else number + 2 ^ 32 - from

-- the number that is so far ahead of another
unfoldable pub number_ahead : ℕ → ℕ → ℕ
number_ahead from distance =
    if nat_lt (from + distance) (2 ^ 32) then from + distance else from + distance - 2 ^ 32

-- a number is one of those from the first to the last: it isn't further ahead than the last
unfoldable pub is_from_to : (first last number : ℕ) → Bool
is_from_to first last number =
    nat_lt number (2 ^ 32) && nat_le (ahead first number) (ahead first last)
