-- A byte that passes a test, sought in parts of a list.
use Rattle.std.proofs.Common.{◌≡◌, ℕ, ◌+◌, Bool, true, false, ◌||◌, List, Option, Some, None, get_or, take, drop, is_some, refl, sym, ap, ap₂, ◌∙◌, arith, inl, inr, take-append-drop, take-add}
use Rattle.std.specs.List.{list_any}
use Rattle.std.proofs.lemmas.Bool.{cases_Bool}
use Rattle.std.proofs.lemmas.List.Elements.{All-from_get_or}
use Rattle.std.proofs.lemmas.List.Folds.{list_any-append, list_any_at, list_any_none}
use Rattle.memchr.specs.Find.{IsFirstByte}

twice : (a b c : Bool) → (a || (b || c)) ≡ ((a || b) || (b || c))
twice true b c = refl
twice false true c = refl
twice false false c = refl

module _ (test : ℕ → Bool) (bytes : List ℕ) where
  cut : (at : ℕ) → list_any test bytes ≡ (list_any test (take at bytes) || list_any test (drop at bytes))
  cut at = ap (list_any test) (sym (take-append-drop at bytes)) ∙ list_any-append test (take at bytes) (drop at bytes)

  -- two parts have all bytes between them, where the second begins before the first ends
  pub list_any-parts : (at more : ℕ)
      → list_any test bytes ≡ (list_any test (take (at + more) bytes) || list_any test (drop at bytes))
  list_any-parts at more =
      let between = take more (drop at bytes) in
      let first : list_any test (take (at + more) bytes) ≡ (list_any test (take at bytes) || list_any test between) =
      ap (list_any test) (take-add at more bytes) ∙ list_any-append test (take at bytes) between in
      let second : list_any test (drop at bytes) ≡ (list_any test between || list_any test (drop more (drop at bytes))) =
      ap (list_any test) (sym (take-append-drop more (drop at bytes))) ∙ list_any-append test between (drop more (drop at bytes)) in
      cut at
      ∙ ap (λ later. list_any test (take at bytes) || later) second
      ∙ twice (list_any test (take at bytes)) (list_any test between) (list_any test (drop more (drop at bytes)))
      ∙ sym (ap₂ ◌||◌ first second)

  pub list_any-found : (found : Option ℕ) → IsFirstByte test bytes found
      → is_some found ≡ list_any test bytes
  list_any-found (Some at) h = sym (list_any_at test bytes at 0 h.0.high h.1)
  list_any-found None h =
      sym (list_any_none test bytes (All-from_get_or (λ b. test b ≡ false) bytes 0 (λ k lt.
      elim (cases_Bool (test (get_or bytes k 0))) [
        | inl passes ↦ absurd (h k (omega arith) lt passes)
        | inr fails ↦ fails
      ])))
