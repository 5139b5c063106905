-- A text, cut at the first byte that passes a test.
use Rattle.std.proofs.Common.{◌≡◌, ℕ, ◌+◌, ◌<◌, Bool, true, false, ◌||◌, ◌==◌, List, [], ◌∷◌, ◌++◌, Option, Some, None, length, get_or, take, drop, refl, sym, ap, subst, ◌∙◌, arith, inl, inr}
use Rattle.std.specs.Prelude.{unwrap_or}
use Rattle.std.specs.List.{slice_split, list_any, before_first, after_first, position_or_len}
use Rattle.std.proofs.lemmas.Bool.{cases_Bool, cases_lt, true≢false, eqb-true}
use Rattle.std.proofs.lemmas.List.{drop_all, get_or-take, length-take}
use Rattle.std.proofs.lemmas.List.Elements.{All-from_get_or}
use Rattle.std.proofs.lemmas.List.Folds.{list_any_none}
use Rattle.std.proofs.lemmas.List.Splits.{slice_split_first, slice_split_none}
use Rattle.std.proofs.lemmas.List.Sums.{position_or_len_is, fails_before_first, passes_at_first, split_at_first}
use Rattle.memchr.specs.Find.{IsFirstByte, is_byte2}
use Rattle.hx_lists.specs.NamedValues.{begins_params}

module _ (test : ℕ → Bool) (text : List ℕ) where
  -- what a search for the byte answers, as a position
  position-at : (k : ℕ) → IsFirstByte test text (Some k) → position_or_len test text ≡ k
  position-at k h =
      position_or_len_is test text k 0 (omega (arith, h.0.high))
      (λ j lt. elim (cases_Bool (test (get_or text j 0))) [
        | inl passes ↦ absurd
            (h.0.before j (omega arith) lt passes)
        | inr fails ↦ fails
      ])
      (λ _. h.1)

  none-passes : IsFirstByte test text None → (j : ℕ) → j < length text
      → test (get_or text j 0) ≡ false
  none-passes h j lt =
      elim (cases_Bool (test (get_or text j 0))) [
        | inl passes ↦ absurd
            (h j (omega arith) lt passes)
        | inr fails ↦ fails
      ]

  position-none : IsFirstByte test text None → position_or_len test text ≡ length text
  position-none h =
      position_or_len_is test text (length text) 0 (omega arith) (none-passes h)
      (λ lt. absurd (omega arith))

  pub before_first-at : (k : ℕ) → IsFirstByte test text (Some k)
      → before_first test text ≡ take k text
  before_first-at k h = ap (λ n. take n text) (position-at k h)

  pub after_first-at : (k : ℕ) → IsFirstByte test text (Some k)
      → after_first test text ≡ drop (k + 1) text
  after_first-at k h = ap (λ n. drop (n + 1) text) (position-at k h)

  pub after_first-none : IsFirstByte test text None → after_first test text ≡ []
  after_first-none h =
      ap (λ n. drop (n + 1) text) (position-none h) ∙ drop_all (length text + 1) text (omega arith)

  pub list_any-none : IsFirstByte test text None → list_any test text ≡ false
  list_any-none h =
      list_any_none test text (All-from_get_or (λ x. test x ≡ false) text 0 (none-passes h))

  pub slice_split-at : (k : ℕ) → IsFirstByte test text (Some k)
      → slice_split test text ≡ take k text ∷ slice_split test (drop (k + 1) text)
  slice_split-at k h =
      let within : position_or_len test text < length text
      = subst (λ n. n < length text) (sym (position-at k h)) h.0.high in
      slice_split_first test text 0 within
      ∙ ap (λ n. take n text ∷ slice_split test (drop (n + 1) text)) (position-at k h)

  pub slice_split-none : IsFirstByte test text None → slice_split test text ≡ text ∷ []
  slice_split-none h =
      slice_split_none test text (All-from_get_or (λ x. test x ≡ false) text 0 (none-passes h))

again : (a : Bool) → (a || a) ≡ (a || false)
again true = refl
again false = refl

-- the bytes that begin parameters, where `?` stands in for a delimiter that is not given
pub is_byte2-begins : (delim : Option ℕ) → is_byte2 63 (unwrap_or delim 63) ≡ begins_params delim
is_byte2-begins None = λ i b. again (b == 63) i
is_byte2-begins (Some d) = refl

-- what stands before the first byte that passes has none
pub before_first-lacks : (test : ℕ → Bool) (text : List ℕ)
    → list_any test (before_first test text) ≡ false
before_first-lacks test text =
    let at = position_or_len test text in
    list_any_none test (take at text)
    (All-from_get_or (λ x. test x ≡ false) (take at text) 0 (λ k lt.
    let short : k < at = omega (arith, length-take at text) in
    subst (λ x. test x ≡ false) (sym (get_or-take at text k 0 short))
    (fails_before_first test text k 0 short)))

-- a text that has a byte is what stands before the first such byte, the byte, and what stands after
-- it
pub around_first : (byte : ℕ) (text : List ℕ) → list_any (λ b. b == byte) text ≡ true
    → before_first (λ b. b == byte) text ++ byte ∷ after_first (λ b. b == byte) text ≡ text
around_first byte text has =
    let test = λ (b : ℕ). b == byte in
    let at = position_or_len test text in
    elim (cases_lt at (length text)) [
      | inl within ↦
          let is = eqb-true (get_or text at 0) byte (passes_at_first test text 0 within) in
          ap (λ b. before_first test text ++ b ∷ after_first test text) (sym is)
          ∙ sym (split_at_first test text 0 within)
      | inr past ↦
          let lacks = list_any_none test text (All-from_get_or (λ x. test x ≡ false) text 0
          (λ k lt. fails_before_first test text k 0 (omega arith))) in
          absurd (true≢false (sym has ∙ lacks))
    ]
