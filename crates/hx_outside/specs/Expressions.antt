-- Which regular expression a text is, in the words of the library of regular expressions.
use Rattle.std.specs.Prelude.{◌≡◌, ℕ, Bool, false, List, Option, None, Some, nat_le, chars, if◌then◌else◌}
use Rattle.regex.specs.Bytes.{regex_pattern}
use Rattle.regex.specs.Patterns.{Re, Config, SameCaptures, default_config}
use Rattle.regex.specs.declared.bytes.regex.Regex.{Regex}
use Rattle.regex_syntax.specs.Brackets.{Nested}
use Rattle.regex_syntax.specs.Grammar.{Names, read}

-- the options by which a text is read: all are the library's own, but that the expression is to
-- search in bytes, and may ignore the case of letters
abbrev pub config_of : Bool → Config
config_of ci =
    record default_config {
      flags = record (default_config.flags) { case_insensitive = ci };
      utf8 = false;
    }

-- the expression that was read, if it is nested no deeper than is allowed
abbrev pub within_bound : Option (Nested Re × Names) → Option Re
within_bound None = None
within_bound (Some found) = if nat_le found.0.depth 250 then Some found.0.value else None

-- The expression that a text is, and none where it is no expression or is nested too deep. A text
-- that is nested too deep is always refused, so "none" says exactly which texts are.
abbrev pub expression : Bool → List ℕ → Option Re
expression ci text = within_bound (read (config_of ci) (chars text))

-- what was made is the expression that the text is: it matches the same, with the same groups
pub record IsExpression (ci : Bool) (text : List ℕ) (made : Regex) : Type 0 where
  pub pattern : Re
  pub is : expression ci text ≡ Some pattern
  pub same : SameCaptures (regex_pattern made) pattern
