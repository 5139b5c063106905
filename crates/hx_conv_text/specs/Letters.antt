-- How the code keeps which case letters are given.
use Rattle.std.specs.Prelude.{ℕ}
use Rattle.std.specs.Char.{to_ascii_lowercase, to_ascii_uppercase}
use Rattle.hx_conv_text.specs.declared.letters.Case.{Case}
use Rattle.hx_conv_text.specs.declared.letters.Case.TheVariants.{Lower, Upper}

-- a byte, where letters of ASCII have this case
abbrev pub in_case : Case → ℕ → ℕ
in_case Lower = to_ascii_lowercase
in_case Upper = to_ascii_uppercase
