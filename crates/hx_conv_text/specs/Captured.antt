-- The groups of a match as the library of regular expressions gives them.
use Rattle.std.specs.Prelude.{ℕ, List}
use Rattle.regex.specs.Bytes.{captures_haystack, captures_span}
use Rattle.regex.specs.Replace.{bytes_of}
use Rattle.regex.specs.declared.bytes.captures.Captures.{Captures}

-- the bytes of a group, nothing where it took no part
abbrev pub captured : Captures → ℕ → List ℕ
captured captures number = bytes_of (captures_haystack captures) (captures_span captures number)
