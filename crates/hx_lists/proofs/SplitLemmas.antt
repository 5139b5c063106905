-- The pieces of a text that is cut at bytes which pass a test.
use Rattle.std.proofs.Common.{◌≡◌, ℕ, ◌+◌, Bool, true, false, ◌||◌, List, [], ◌∷◌, ◌++◌, length, refl, sym, ap, ap₂, ◌∙◌, arith, inl, inr, append-nil}
use Rattle.std.specs.List.{AllByRecursion, filter, list_any, slice_split, onto_first}
use Rattle.std.proofs.lemmas.Bool.{cases_Bool, true≢false}
use Rattle.std.proofs.lemmas.List.Splits.{slice_split-cons_yes, slice_split-cons_no, length-slice_split}
use Rattle.std.proofs.lemmas.List.Sums.{length-filter}
use Rattle.hx_lists.specs.HeaderValues.{pieces_with_prefix}
use Rattle.hx_lists.specs.Laws.{text_of_pieces, IsCutAt}

pub neither : (a b : Bool) → (a || b) ≡ false → (a ≡ false) × (b ≡ false)
neither true b h = absurd (true≢false h)
neither false b h = (refl, h)

pub onto_first-pieces_with_prefix : (b : ℕ) (bs : List ℕ) (pieces : List (List ℕ))
    → onto_first b (pieces_with_prefix bs pieces) ≡ pieces_with_prefix (b ∷ bs) pieces
onto_first-pieces_with_prefix b bs [] = refl
onto_first-pieces_with_prefix b bs (piece ∷ pieces) = refl

pieces_with_prefix-nil : (b : ℕ) (pieces : List (List ℕ))
    → pieces_with_prefix [] (onto_first b pieces) ≡ onto_first b pieces
pieces_with_prefix-nil b [] = refl
pieces_with_prefix-nil b (piece ∷ pieces) = refl

module _ (separates : ℕ → Bool) where
  pieces_with_prefix-none : (text : List ℕ)
      → pieces_with_prefix [] (slice_split separates text) ≡ slice_split separates text
  pieces_with_prefix-none [] = refl
  pieces_with_prefix-none (b ∷ bs) =
      elim (cases_Bool (separates b)) [
        | inl yes' ↦ rw yes' refl
        | inr no' ↦ rw no'
            (pieces_with_prefix-nil b (slice_split separates bs))
      ]

  filter_passes : (text : List ℕ) → AllByRecursion (λ b. separates b ≡ true) (filter separates text)
  filter_passes [] = tt
  filter_passes (b ∷ bs) =
      elim (cases_Bool (separates b)) [ inl yes' ↦ rw yes' (yes', filter_passes bs) | inr no' ↦ rw no' (filter_passes bs) ]

  text_of_pieces-onto_first : (b : ℕ) (pieces : List (List ℕ)) (separators : List ℕ)
      → length pieces ≡ length separators + 1
      → text_of_pieces (onto_first b pieces) separators ≡ b ∷ text_of_pieces pieces separators
  text_of_pieces-onto_first b [] separators e = absurd (omega arith)
  text_of_pieces-onto_first b (piece ∷ pieces) [] e = refl
  text_of_pieces-onto_first b (piece ∷ pieces) (s ∷ separators) e = refl

  count : (text : List ℕ) → length (slice_split separates text) ≡ length (filter separates text) + 1
  count text =
      length-slice_split separates text ∙ ap (λ n. n + 1) (sym (length-filter separates text))

  text_of_pieces-slice_split : (text : List ℕ)
      → text_of_pieces (slice_split separates text) (filter separates text) ≡ text
  text_of_pieces-slice_split [] = refl
  text_of_pieces-slice_split (b ∷ bs) =
      let rest = text_of_pieces-slice_split bs in
      elim (cases_Bool (separates b)) [
        | inl yes' ↦ rw yes' (ap (λ later. b ∷ later) rest)
        | inr no' ↦ rw no' (text_of_pieces-onto_first b (slice_split separates bs)
            (filter separates bs) (count bs) ∙ ap (λ later. b ∷ later) rest)
      ]

  uncut-onto_first : (b : ℕ) (pieces : List (List ℕ)) → separates b ≡ false
      → AllByRecursion (λ piece. list_any separates piece ≡ false) pieces
      → AllByRecursion (λ piece. list_any separates piece ≡ false) (onto_first b pieces)
  uncut-onto_first b [] no' h = (rw no' refl, tt)
  uncut-onto_first b (piece ∷ pieces) no' h = (rw no' h.0, h.1)

  uncut-slice_split : (text : List ℕ)
      → AllByRecursion (λ piece. list_any separates piece ≡ false) (slice_split separates text)
  uncut-slice_split [] = (refl, tt)
  uncut-slice_split (b ∷ bs) =
      elim (cases_Bool (separates b)) [
        | inl yes' ↦ rw yes' (refl, uncut-slice_split bs)
        | inr no' ↦ rw no' (uncut-onto_first b (slice_split separates bs) no'
            (uncut-slice_split bs))
      ]

  pub IsCutAt-slice_split : (text : List ℕ) → IsCutAt separates (slice_split separates text) text
  IsCutAt-slice_split text = record {
    separators = filter separates text;
    count = count text;
    separate = filter_passes text;
    joined = text_of_pieces-slice_split text;
    uncut = uncut-slice_split text;
  }

  slice_split-onto : (piece rest : List ℕ) → list_any separates piece ≡ false
      → slice_split separates (piece ++ rest)
      ≡ pieces_with_prefix piece (slice_split separates rest)
  slice_split-onto [] rest h = sym (pieces_with_prefix-none rest)
  slice_split-onto (b ∷ bs) rest h =
      let parts = neither (separates b) (list_any separates bs) h in
      slice_split-cons_no separates b (bs ++ rest) parts.0
      ∙ ap (onto_first b) (slice_split-onto bs rest parts.1)
      ∙ onto_first-pieces_with_prefix b bs (slice_split separates rest)

  slice_split-text_of_pieces : (pieces : List (List ℕ)) (separators : List ℕ)
      → length pieces ≡ length separators + 1 → AllByRecursion (λ b. separates b ≡ true) separators
      → AllByRecursion (λ piece. list_any separates piece ≡ false) pieces
      → slice_split separates (text_of_pieces pieces separators) ≡ pieces
  slice_split-text_of_pieces [] separators e s u = absurd (omega arith)
  slice_split-text_of_pieces (piece ∷ []) [] e s u =
      ap (slice_split separates) (sym (append-nil piece)) ∙ slice_split-onto piece [] u.0
      ∙ ap (λ p. p ∷ []) (append-nil piece)
  slice_split-text_of_pieces (piece ∷ next ∷ pieces) [] e s u = absurd (omega arith)
  slice_split-text_of_pieces (piece ∷ pieces) (b ∷ separators) e s u =
      let later = slice_split-text_of_pieces pieces separators (omega arith) s.1 u.1 in
      slice_split-onto piece (b ∷ text_of_pieces pieces separators) u.0
      ∙ ap (pieces_with_prefix piece) (slice_split-cons_yes separates b
      (text_of_pieces pieces separators) s.0)
      ∙ ap₂ ◌∷◌ (append-nil piece) later

  pub IsCutAt-only : (pieces : List (List ℕ)) (text : List ℕ) → IsCutAt separates pieces text
      → pieces ≡ slice_split separates text
  IsCutAt-only pieces text h =
      sym (slice_split-text_of_pieces pieces h.separators h.count h.separate h.uncut)
      ∙ ap (slice_split separates) h.joined
