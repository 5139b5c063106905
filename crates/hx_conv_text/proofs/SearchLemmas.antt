-- A search for one byte or for two, as the position of the first byte that is in a list of them.
use Rattle.std.proofs.Common.{◌≡◌, ℕ, ◌<◌, ◌≤◌, Bool, true, false, ◌||◌, ◌==◌, List, [], ◌∷◌, Option, Some, None, length, get_or, refl, sym, ap, ap₂, ◌∙◌, arith, inl, inr, eq-eqb, eqb-true}
use Rattle.std.specs.Prelude.{unwrap_or}
use Rattle.std.specs.List.{position_or_len}
use Rattle.std.proofs.lemmas.Bool.{cases_Bool, eqb-false, ne_eqb}
use Rattle.std.proofs.lemmas.List.Sums.{position_or_len_is}
use Rattle.std.proofs.Math.Bool.{or-false}
use mathlib.Core.Path.{fun_ext}
use Rattle.memchr.specs.Find.{IsFirstByte, is_byte, is_byte2}
use Rattle.hx_conv_text.specs.Pieces.{is_in}

module _ (test : ℕ → Bool) (text : List ℕ) where
  fails : (j : ℕ) → ¬ (test (get_or text j 0) ≡ true) → test (get_or text j 0) ≡ false
  fails j stays =
      elim (cases_Bool (test (get_or text j 0))) [
        | inl passes ↦ absurd (stays passes)
        | inr other ↦ other
      ]

  -- what a search answers, as a position
  place : (found : Option ℕ) → IsFirstByte test text found
      → position_or_len test text ≡ unwrap_or found (length text)
  place None h =
      position_or_len_is test text (length text) 0 (omega arith)
      (λ j lt. fails j (h j (omega arith) lt))
      (λ lt. absurd (omega (arith, lt)))
  place (Some k) h =
      position_or_len_is test text k 0 (omega (arith, h.0.high))
      (λ j lt. fails j (h.0.before j (omega arith) lt))
      (λ _. h.1)

swapped : (a b : ℕ) → (a == b) ≡ (b == a)
swapped a b =
    elim (cases_Bool (a == b)) [
      | inl same ↦ same ∙ sym (eq-eqb b a (sym (eqb-true a b same)))
      | inr other ↦ other ∙ sym (ne_eqb b a (λ e. eqb-false a b other (sym e)))
    ]

one_byte : (byte : ℕ) → is_byte byte ≡ is_in (byte ∷ [])
one_byte byte = fun_ext (λ b. swapped b byte ∙ sym (or-false (byte == b)))

two_bytes : (first second : ℕ) → is_byte2 first second ≡ is_in (first ∷ second ∷ [])
two_bytes first second =
    fun_ext (λ b. ap₂ ◌||◌ (swapped b first) (swapped b second ∙ sym (or-false (second == b))))

pub place_of_one : (byte : ℕ) (text : List ℕ) (found : Option ℕ) → IsFirstByte (is_byte byte) text found
    → unwrap_or found (length text) ≡ position_or_len (is_in (byte ∷ [])) text
place_of_one byte text found h =
    sym (place (is_byte byte) text found h) ∙ ap (λ test. position_or_len test text) (one_byte byte)

pub place_of_two : (first second : ℕ) (text : List ℕ) (found : Option ℕ)
    → IsFirstByte (is_byte2 first second) text found
    → unwrap_or found (length text) ≡ position_or_len (is_in (first ∷ second ∷ [])) text
place_of_two first second text found h =
    sym (place (is_byte2 first second) text found h)
    ∙ ap (λ test. position_or_len test text) (two_bytes first second)

-- a list of one byte, and one of two
pub one_long : (bytes : List ℕ) → 1 ≤ length bytes → length bytes < 2 → get_or bytes 0 0 ∷ [] ≡ bytes
one_long [] some few = absurd (omega (arith, some))
one_long (b ∷ []) some few = refl
one_long (b ∷ c ∷ bytes) some few = absurd (omega (arith, few))

pub two_long : (bytes : List ℕ) → 2 ≤ length bytes → length bytes < 3
    → get_or bytes 0 0 ∷ get_or bytes 1 0 ∷ [] ≡ bytes
two_long [] some few = absurd (omega (arith, some))
two_long (b ∷ []) some few = absurd (omega (arith, some))
two_long (b ∷ c ∷ []) some few = refl
two_long (b ∷ c ∷ d ∷ bytes) some few = absurd (omega (arith, few))
