-- Which converters have an expression that is none, by what building them says.
use Rattle.std.proofs.Common.{◌≡◌, ℕ, Bool, true, false, List, Option, Some, None, refl, ap, ◌∙◌, is_some, IsUtf8, inl, inr}
use Rattle.std.specs.Prelude.{IfSome, IsSome, IsSomeAnd}
use Rattle.std.specs.Str.{is_utf8}
use Rattle.std.proofs.lemmas.Bool.{cases_Bool}
use Rattle.std.proofs.lemmas.Str.{is_utf8-from_IsUtf8, IsUtf8-from_is_utf8}
use Rattle.hx_ast.specs.declared.conv.Conv.{Conv}
use Rattle.hx_ast.specs.declared.conv.Conv.TheVariants as conv
use Rattle.hx_outside.specs.Expressions.{expression}
use Rattle.hx_sample.specs.Keys.{key_expression}
use Rattle.hx_conv_text.specs.Building.{expression_text, IsNoRegex, IsRegex}
use Rattle.hx_expr.specs.Expressions.{has_expression}

-- the expression of a text that is UTF-8, and of one that isn't
key_of_utf8 : (ci : Bool) (text : List ℕ) → IsUtf8 text → key_expression ci text ≡ expression ci text
key_of_utf8 ci text utf8 = rw (is_utf8-from_IsUtf8 text utf8) refl

key_of_other : (ci : Bool) (text : List ℕ) → ¬ (IsUtf8 text) → is_some (key_expression ci text) ≡ false
key_of_other ci text other =
    elim (cases_Bool (is_utf8 text)) [
      | inl utf8 ↦ absurd (other (IsUtf8-from_is_utf8 text utf8))
      | inr is ↦ rw is refl
    ]

some_is : {A : Type 0} (o : Option A) → IsSome o → is_some o ≡ true
some_is None h = cc
some_is (Some x) h = refl

pub read_expression : (c : Conv) → IfSome (expression_text c) IsRegex → has_expression c ≡ true
read_expression (conv.Regsub text sub all ci) h =
    ap is_some (key_of_utf8 ci text h.utf8) ∙ some_is (expression ci text) h.expression
read_expression _ h = refl

pub not_utf8_expression : (c : Conv) → IsSomeAnd (expression_text c) (λ asked. ¬ (IsUtf8 asked.text)) → has_expression c ≡ false
not_utf8_expression (conv.Regsub text sub all ci) h = key_of_other ci text h
not_utf8_expression _ h = absurd h

pub refused_expression : (c : Conv) → IsSomeAnd (expression_text c) IsNoRegex → has_expression c ≡ false
refused_expression (conv.Regsub text sub all ci) h =
    ap is_some (key_of_utf8 ci text h.utf8) ∙ ap is_some h.none
refused_expression _ h = absurd h

pub ruleset expression_cases = (read_expression, not_utf8_expression, refused_expression)
