-- The first pair that has a name, piece by piece.
use Rattle.std.proofs.Common.{◌≡◌, ℕ, zero, suc, ◌+◌, ◌-◌, Bool, false, ◌==◌, List, [], ◌∷◌, ◌++◌, Option, Some, None, length, map, filter, take, drop, refl, sym, ap, ◌∙◌, arith, inl, inr, nat_eq, append_assoc, take-append-drop, one-add}
use Rattle.std.specs.List.{after_first, list_any, prefix_len, suffix_len, slice_split, starts_with, position_or_len}
use Rattle.std.specs.Option.{option_or, option_map_or}
use Rattle.std.specs.Cmp.{unsigned_Decides}
use Rattle.std.proofs.lemmas.Bool.{cases_Bool, true≢false}
use Rattle.std.proofs.Math.Seq.{take-nil}
use Rattle.std.proofs.lemmas.Slice.Eq.{bytes_eq-Decides, starts_is}
use Rattle.hx_base.specs.Bytes.{is_blank}
use Rattle.hx_lists.specs.Blanks.{trim_blanks}
use Rattle.hx_lists.specs.NamedValues.{NamedValue, named_value, named_values, trimmed_pair, is_named, value_named}
use Rattle.hx_lists.specs.PieceValues.{value_of_piece}

-- the pairs, without blanks at their ends, of those pieces that are pairs
abbrev trimmed_pairs : List (List ℕ) → List NamedValue
trimmed_pairs pieces = map trimmed_pair (map named_value (filter (list_any (λ b. b == 61)) pieces))

drop-past : (n : ℕ) (pair : NamedValue) (pairs : List NamedValue)
    → drop (1 + n + 1) (pair ∷ pairs) ≡ drop (n + 1) pairs
drop-past n pair pairs = let same : 1 + n + 1 ≡ suc (n + 1) = omega arith in ap (λ k. drop k (pair ∷ pairs)) same

module _ (name piece : List ℕ) (pieces : List (List ℕ)) where
  pub value_named-piece : value_named name (trimmed_pairs (piece ∷ pieces))
      ≡ option_or (value_of_piece name piece) (value_named name (trimmed_pairs pieces))
  value_named-piece =
      elim (cases_Bool (list_any (λ b. b == 61) piece)) [
        | inl pair ↦
            elim (cases_Bool (is_named name (trimmed_pair (named_value piece)))) [
              | inl same ↦ rw (pair, same) refl
              | inr other ↦ rw (pair, other) refl
            ]
        | inr no_pair ↦ rw no_pair refl
      ]

  pub after_first-piece : after_first (is_named name) (trimmed_pairs (piece ∷ pieces))
      ≡ option_map_or (λ value. trimmed_pairs pieces) (value_of_piece name piece)
      (after_first (is_named name) (trimmed_pairs pieces))
  after_first-piece =
      elim (cases_Bool (list_any (λ b. b == 61) piece)) [
        | inl pair ↦
            elim (cases_Bool (is_named name (trimmed_pair (named_value piece)))) [
              | inl same ↦ rw (pair, same) refl
              | inr other ↦
                  rw (pair, other) (drop-past (position_or_len (is_named name) (trimmed_pairs pieces))
                  (trimmed_pair (named_value piece)) (trimmed_pairs pieces))
            ]
        | inr no_pair ↦ rw no_pair refl
      ]

-- what is left after a piece that is no pair of the name has the same first pair of the name
pub left_after : (test : ℕ → Bool) (name text piece : List ℕ) (rest : Option (List ℕ))
    → slice_split test text ≡ piece ∷ option_map_or (slice_split test) rest []
    → value_of_piece name piece ≡ None
    → let left = map trimmed_pair (option_map_or (named_values test) rest []) in
    let whole = map trimmed_pair (named_values test text) in
    (value_named name left ≡ value_named name whole)
    × (after_first (is_named name) left ≡ after_first (is_named name) whole)
left_after test name text piece None cut none = (
  sym
      (ap (λ pieces. value_named name (trimmed_pairs pieces)) cut
      ∙ value_named-piece name piece []
      ∙ ap (λ value. option_or value None) none),
  sym
      (ap (λ pieces. after_first (is_named name) (trimmed_pairs pieces)) cut
      ∙ after_first-piece name piece []
      ∙ ap (λ value. option_map_or (λ _. []) value []) none),
)
left_after test name text piece (Some rest) cut none =
    let left = slice_split test rest in
    let later = after_first (is_named name) (trimmed_pairs left) in (
      sym
          (ap (λ pieces. value_named name (trimmed_pairs pieces)) cut
          ∙ value_named-piece name piece left
          ∙ ap (λ value. option_or value (value_named name (trimmed_pairs left))) none),
      sym
          (ap (λ pieces. after_first (is_named name) (trimmed_pairs pieces)) cut
          ∙ after_first-piece name piece left
          ∙ ap (λ value. option_map_or (λ _. trimmed_pairs left) value later) none),
    )

-- what is left of a part that bytes begin with, without its first blanks and cut short, is what the
-- bytes themselves begin with after theirs
front : (p : ℕ → Bool) (m k : ℕ) (bytes : List ℕ) → (rest : List ℕ)
    × (drop (prefix_len p bytes) bytes ≡ take m (drop (prefix_len p (take k bytes)) (take k bytes)) ++ rest)
front p m zero bytes = (drop (prefix_len p bytes) bytes, ap (λ first. first ++ drop (prefix_len p bytes) bytes) (sym (take-nil m)))
front p m (suc k) [] = ([], ap (λ first. first ++ []) (sym (take-nil m)))
front p m (suc k) (b ∷ bs) =
    elim (cases_Bool (p b)) [
      | inl yes' ↦ rw (yes', one-add (prefix_len p bs), one-add (prefix_len p (take k bs))) (front p m k bs)
      | inr no' ↦
          rw no' (
            drop m (b ∷ take k bs) ++ drop k bs,
            ap (λ first. b ∷ first) (sym (take-append-drop k bs))
                ∙ ap (λ first. first ++ drop k bs) (sym (take-append-drop m (b ∷ take k bs)))
                ∙ append_assoc (take m (b ∷ take k bs)) (drop m (b ∷ take k bs)) (drop k bs),
          )
    ]

-- a piece that has the name begins with it, after its first blanks
is_named-begins : (name piece : List ℕ)
    → starts_with nat_eq (drop (prefix_len is_blank piece) piece) name ≡ false
    → is_named name (trimmed_pair (named_value piece)) ≡ false
is_named-begins name piece no' =
    let before = take (position_or_len (λ (b : ℕ). b == 61) piece) piece in
    let tail = drop (prefix_len is_blank before) before in
    let text = drop (prefix_len is_blank piece) piece in
    let begins = front is_blank (length tail - suffix_len is_blank tail) (position_or_len (λ (b : ℕ). b == 61) piece) piece in
    elim (cases_Bool (is_named name (trimmed_pair (named_value piece)))) [
      | inl same ↦
          let found = (bytes_eq-Decides (trim_blanks before) name).0 same in
          let starts = starts_is {E = nat_eq} unsigned_Decides text name (starts_with nat_eq text name) refl in
          absurd (true≢false (sym (starts.1 begins.0 (begins.1 ∙ ap (λ first. first ++ begins.0) found)) ∙ no'))
      | inr other ↦ other
    ]

pub value_of_piece-begins : (name piece : List ℕ)
    → starts_with nat_eq (drop (prefix_len is_blank piece) piece) name ≡ false
    → None ≡ value_of_piece name piece
value_of_piece-begins name piece no' =
    let other = is_named-begins name piece no' in
    elim (cases_Bool (list_any (λ b. b == 61) piece)) [ inl pair ↦ rw (pair, other) refl | inr no_pair ↦ rw no_pair refl ]
