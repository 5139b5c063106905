-- Single bytes, by the characters that they are in ASCII (RFC 20): `ascii ","` is 44.
pub use Prim.Native.Char.{code as ascii}
use Rattle.std.specs.Prelude.{ℕ, Bool, false, ◌==◌, ◌||◌, Option, None, Some}

-- a space or a tab
abbrev pub is_blank : ℕ → Bool
is_blank b = b == ascii " " || b == ascii "\t"

-- a byte that no value of a header may have: CR, LF or NUL (RFC 9110, section 5.5)
abbrev pub is_bad_value_byte : ℕ → Bool
is_bad_value_byte b = b == ascii "\r" || b == ascii "\n" || b == 0

-- the byte is the one that is given, where one is
abbrev pub is_given : Option ℕ → ℕ → Bool
is_given None b = false
is_given (Some other) b = b == other
