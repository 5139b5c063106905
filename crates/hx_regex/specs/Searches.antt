-- What a matcher searches for, in the words of the library of regular expressions.
use Rattle.std.specs.Prelude.{◌≡◌, ℕ, Bool, List, Option, Some, is_some, option_map}
use Rattle.regex.specs.Bytes.{matcher_pattern}
use Rattle.regex.specs.Patterns.{Re, SameCaptures, find}
use Rattle.hx_outside.specs.Expressions.{expression}
use Rattle.hx_outside.specs.Makers.{ExpressionText}
use Rattle.hx_regex.specs.declared.expression.Search.{Search}
use Rattle.hx_regex.specs.declared.expression.Search.TheVariants as search
use Rattle.hx_regex.specs.declared.kept.Kept.{Kept}

-- what is searched for is the expression that a text is: it matches the same, with the same groups
pub record IsPatternOf (asked : ExpressionText) (searched : Re) : Type 0 where
  pub pattern : Re
  pub is : expression asked.ci asked.text ≡ Some pattern
  pub same : SameCaptures searched pattern

-- a matcher that is kept searches for the expression of the text
abbrev pub IsKeptFor : ExpressionText → Kept → Type 0
IsKeptFor asked kept =
    (kept.text ≡ asked.text) × IsPatternOf asked (matcher_pattern kept.matcher.value)

-- a search is for the expression of the text
abbrev pub IsSearchFor : ExpressionText → Search → Type 0
IsSearchFor asked (search.Fresh matcher) = IsPatternOf asked (matcher_pattern matcher.value)
IsSearchFor asked (search.Kept kept) = IsKeptFor asked kept

-- whether the expression that a text is matches somewhere in the bytes; none where it is none
abbrev pub matches_in : ExpressionText → List ℕ → Option Bool
matches_in asked bytes =
    option_map (λ pattern. is_some (find pattern bytes 0)) (expression asked.ci asked.text)
