-- Where a configuration is refused, and with which code.
use Rattle.std.specs.Prelude.{ℕ}

-- the line of a configuration with its first fault, counted from 1, and the code of that
pub record Refusal : Type 0 where
  pub line : ℕ
  pub code : ℕ

-- the code of a regular expression or a pattern that is none
abbrev pub bad_pattern : ℕ
bad_pattern = 16
