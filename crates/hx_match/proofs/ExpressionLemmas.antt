-- What an expression finds is what the expression of its text finds.
use Rattle.std.proofs.Common.{◌≡◌, ℕ, Bool, false, List, refl, sym, ap, inl, inr}
use Rattle.std.specs.Prelude.{is_some, option_map, unwrap_or, IsUtf8, Option, Some, None}
use Rattle.std.specs.Str.{is_utf8}
use Rattle.std.proofs.lemmas.Str.{is_utf8-from_IsUtf8, IsUtf8-from_is_utf8}
use Rattle.std.proofs.lemmas.Bool.{cases_Bool}
use Rattle.regex.specs.Patterns.{Re, find}
use Rattle.regex.specs.declared.bytes.regex.Regex.{Regex}
use Rattle.hx_outside.specs.Expressions.{expression, IsExpression}
use Rattle.hx_outside.specs.Makers.{ExpressionText}
use Rattle.hx_regex.specs.Searches.{matches_in}
use Rattle.hx_text.specs.declared.kinds.By.TheVariants as by
use Rattle.hx_sample.specs.Keys.{is_found_in, key_expression}
use Rattle.hx_outside.specs.declared.pattern_fault.PatFault.TheVariants.{BadRegex, NotUtf8}
use Rattle.hx_match.specs.Patterns.{text_fault}
use Rattle.hx_match.specs.Read.{IsKeyExpression}

-- what an expression finds, if there is one
found_or_none : (pattern : Option Re) (text : List ℕ) (hit : Bool)
    → option_map (λ re. is_some (find re text 0)) pattern ≡ Some hit
    → hit ≡ is_found_in pattern text
found_or_none (Some re) text hit found =
    sym (ap (λ found. unwrap_or found false) found)
found_or_none None text hit found = cc

-- whether a search for a key's expression finds something
pub found_alike : (ci : Bool) (key text : List ℕ) (hit : Bool) (re : ExpressionText)
    → IsKeyExpression ci key re → matches_in re text ≡ Some hit
    → hit ≡ is_found_in (key_expression ci key) text
found_alike ci key text hit re read found =
    rw (is_utf8-from_IsUtf8 key read.utf8)
    (found_or_none (expression ci key) text hit (rw read.is at found))

-- a text that is UTF-8 and no expression
pub bad_expression : (ci : Bool) (text : List ℕ) → IsUtf8 text → expression ci text ≡ None
    → text_fault by.Reg ci text ≡ Some BadRegex
bad_expression ci text utf8 none = rw (is_utf8-from_IsUtf8 text utf8, none) refl

-- a text whose expression was made
pub made_expression : (ci : Bool) (text : List ℕ) (made : Regex) → IsUtf8 text
    → IsExpression ci text made → text_fault by.Reg ci text ≡ None
made_expression ci text made utf8 is = rw (is_utf8-from_IsUtf8 text utf8, is.is) refl

-- a text that isn't UTF-8
pub no_utf8 : (ci : Bool) (text : List ℕ) → ¬ (IsUtf8 text) → text_fault by.Reg ci text ≡ Some NotUtf8
no_utf8 ci text other =
    elim (cases_Bool (is_utf8 text)) [
      | inl is ↦ absurd (other (IsUtf8-from_is_utf8 text is))
      | inr isnt ↦ rw isnt refl
    ]
