-- A search for an expression finds what the expression of its text finds.
use Rattle.std.proofs.Common.{◌≡◌, ℕ, ◌<◌, Bool, false, List, get_or, refl, ap}
use Rattle.std.specs.Prelude.{Some, is_some}
use Rattle.regex.specs.Bytes.{regex_pattern}
use Rattle.regex.specs.Patterns.{Re, find}
use Rattle.regex.specs.declared.bytes.regex.Regex.{Regex}
use Rattle.regex.proofs.ForCallers.{is_match_alike}
use Rattle.hx_outside.specs.Expressions.{IsExpression}
use Rattle.hx_outside.specs.Makers.{ExpressionText}
use Rattle.hx_regex.specs.Searches.{IsPatternOf, matches_in}

-- what was made of a text searches for its expression
pub made_is_pattern : (ci : Bool) (text : List ℕ) (made : Regex) → IsExpression ci text made
    → IsPatternOf (record { text = text; ci = ci }) (regex_pattern made)
made_is_pattern ci text made is = record { pattern = is.pattern; is = is.is; same = is.same }

pub found : (asked : ExpressionText) (searched : Re) (bytes : List ℕ)
    → ((k : ℕ) → get_or bytes k 0 < 256) → IsPatternOf asked searched
    → matches_in asked bytes ≡ Some (is_some (find searched bytes 0))
found asked searched bytes fits is =
    rw (is.is, is_match_alike is.same bytes fits false 0) refl
