-- Whether a text is a regular expression, by what making it says.
use Rattle.std.proofs.Common.{◌≡◌, ℕ, Bool, true, false, List, refl, ap, ◌∙◌, is_some, IsUtf8, inl, inr}
use Rattle.std.specs.Str.{is_utf8}
use Rattle.std.proofs.lemmas.Bool.{cases_Bool}
use Rattle.std.proofs.lemmas.Str.{is_utf8-from_IsUtf8, IsUtf8-from_is_utf8}
use Rattle.regex.specs.declared.bytes.regex.Regex.{Regex}
use Rattle.hx_outside.specs.Expressions.{expression, IsExpression}
use Rattle.hx_sample.specs.Keys.{key_expression}
use Rattle.hx_conv_text.specs.Building.{IsNoRegex}

-- the expression of a text that is UTF-8
key_of_utf8 : (ci : Bool) (text : List ℕ) → IsUtf8 text → key_expression ci text ≡ expression ci text
key_of_utf8 ci text utf8 = rw (is_utf8-from_IsUtf8 text utf8) refl

pub read_pattern : (ci : Bool) (text : List ℕ) (made : Regex) → IsExpression ci text made → IsUtf8 text → is_some (key_expression ci text) ≡ true
read_pattern ci text made read utf8 = ap is_some (key_of_utf8 ci text utf8 ∙ read.is)

pub not_utf8_pattern : (ci : Bool) (text : List ℕ) → ¬ (IsUtf8 text) → is_some (key_expression ci text) ≡ false
not_utf8_pattern ci text other =
    elim (cases_Bool (is_utf8 text)) [
      | inl utf8 ↦ absurd (other (IsUtf8-from_is_utf8 text utf8))
      | inr is ↦ rw is refl
    ]

pub refused_pattern : (ci : Bool) (text : List ℕ) → IsNoRegex (record { text = text; ci = ci }) → is_some (key_expression ci text) ≡ false
refused_pattern ci text none = ap is_some (key_of_utf8 ci text none.utf8 ∙ none.none)

pub ruleset pattern_cases = (read_pattern, not_utf8_pattern, refused_pattern)
