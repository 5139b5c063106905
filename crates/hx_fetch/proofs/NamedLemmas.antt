-- The first value of a name among pairs, and those of the pairs after it.
use Rattle.std.proofs.Common.{◌≡◌, ℕ, suc, ◌+◌, List, [], ◌∷◌, Option, Some, None, drop, refl, sym, ap, ◌∙◌, arith, inl, inr}
use Rattle.std.specs.Prelude.{IfSome, IfNone}
use Rattle.std.specs.Borrow.{Bor}
use Rattle.std.specs.List.{after_first, position_or_len}
use Rattle.std.specs.Option.{option_copied, option_map_or}
use Rattle.std.proofs.lemmas.Bool.{cases_Bool}
use Rattle.hx_lists.specs.NamedValues.{NamedValue, is_named, value_named}
use Rattle.hx_fetch.specs.Views.{values_under}

drop-past : (n : ℕ) (pair : NamedValue) (pairs : List NamedValue)
    → drop (1 + n + 1) (pair ∷ pairs) ≡ drop (n + 1) pairs
drop-past n pair pairs = let same : 1 + n + 1 ≡ suc (n + 1) = omega arith in ap (λ k. drop k (pair ∷ pairs)) same

-- the values of a name are the first, if there is one, and those of the pairs after it
values_named : (name : List ℕ) (pairs : List NamedValue) → values_under (Some name) pairs
    ≡ option_map_or (λ value. value ∷ values_under (Some name) (after_first (is_named name) pairs))
    (value_named name pairs) []
values_named name [] = refl
values_named name (pair ∷ pairs) =
    elim (cases_Bool (is_named name pair)) [
      | inl same ↦ rw same refl
      | inr other ↦
          rw (other, drop-past (position_or_len (is_named name) pairs) pair pairs) (values_named name pairs)
    ]

-- and without one, no pair is after it
none_after : (name : List ℕ) (pairs : List NamedValue) → value_named name pairs ≡ None
    → after_first (is_named name) pairs ≡ []
none_after name [] none = refl
none_after name (pair ∷ pairs) none =
    elim (cases_Bool (is_named name pair)) [
      | inl same ↦ cc (rw same at none)
      | inr other ↦
          rw (other, drop-past (position_or_len (is_named name) pairs) pair pairs)
          (none_after name pairs (rw other at none))
    ]

module _ (name : List ℕ) (old new : List NamedValue) (left : new ≡ after_first (is_named name) old) where
  pub some_named : (value : Option (Bor (List ℕ))) → option_copied value ≡ value_named name old
      → IfSome value (λ first. values_under (Some name) old ≡ first.now ∷ values_under (Some name) new)
  some_named (Some value) is =
      values_named name old
      ∙ ap (λ found. option_map_or (λ first. first ∷ values_under (Some name) (after_first (is_named name) old)) found []) (sym is)
      ∙ ap (λ pairs. value.now ∷ values_under (Some name) pairs) (sym left)
  some_named None is = tt

  pub none_named : (value : Option (Bor (List ℕ))) → option_copied value ≡ value_named name old
      → IfNone value (values_under (Some name) old ≡ [])
  none_named (Some value) is = tt
  none_named None is =
      values_named name old
      ∙ ap (λ found. option_map_or (λ first. first ∷ values_under (Some name) (after_first (is_named name) old)) found []) (sym is)

  pub left_named : (value : Option (Bor (List ℕ))) → option_copied value ≡ value_named name old
      → IfNone value (new ≡ [])
  left_named (Some value) is = tt
  left_named None is = left ∙ none_after name old (sym is)
