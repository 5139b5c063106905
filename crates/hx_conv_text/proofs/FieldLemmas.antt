-- The fields of a text are the pieces of a row with one delimiter between them.
use Rattle.std.proofs.Common.{◌≡◌, ◌↔◌, ℕ, ◌+◌, ◌<◌, Bool, true, false, ℤ, List, [], ◌∷◌, ◌++◌, length, Option, Some, refl, sym, ap, ◌∙◌, inl, inr, arith, append-nil}
use Rattle.std.specs.List.{AllByRecursion, list_any, onto_first, slice_split}
use Rattle.std.proofs.lemmas.Bool.{and_parts, cases_Bool, or_parts}
use Rattle.std.proofs.lemmas.List.Splits.{slice_split-cons_no, slice_split-cons_yes}
use Rattle.hx_conv_text.specs.Cuts.{AreDelimiters, GapAndPiece, HasNoDelimiter, IsPartOfFields, IsRow, row_text}
use Rattle.hx_conv_text.specs.Pieces.{field_spans, is_in, items_at, spans_from, text_across}
use Rattle.hx_conv_text.proofs.PartLemmas.{is_part, part_is}
use Rattle.hx_conv_text.proofs.RowLemmas.{spans_at}

module _ (p : ℕ → Bool) where
  -- a piece, and a byte at which the text is cut
  pub split_piece : (piece : List ℕ) (b : ℕ) (rest : List ℕ) → list_any p piece ≡ false → p b ≡ true
      → slice_split p (piece ++ b ∷ rest) ≡ piece ∷ slice_split p rest
  split_piece [] b rest none cut = slice_split-cons_yes p b rest cut
  split_piece (x ∷ xs) b rest none cut =
      let parts = or_parts (p x) (list_any p xs) none in
      slice_split-cons_no p x (xs ++ b ∷ rest) parts.0 ∙ ap (onto_first x) (split_piece xs b rest parts.1 cut)

  pub split_last : (piece : List ℕ) → list_any p piece ≡ false → slice_split p piece ≡ piece ∷ []
  split_last [] none = refl
  split_last (x ∷ xs) none =
      let parts = or_parts (p x) (list_any p xs) none in
      slice_split-cons_no p x xs parts.0 ∙ ap (onto_first x) (split_last xs parts.1)

-- a gap between fields is one delimiter
module _ (delims : List ℕ) where
  abbrev IsFieldGap : List ℕ → Type 0
  IsFieldGap gap = AreDelimiters delims gap × (length gap ≡ 1)

  abbrev AreLater : List GapAndPiece → Type 0
  AreLater = AllByRecursion (λ (later : GapAndPiece). IsFieldGap later.0 × HasNoDelimiter delims later.1)

  fields_at : (at : ℕ) (piece : List ℕ) (rest : List GapAndPiece) → HasNoDelimiter delims piece → AreLater rest
      → spans_from at (slice_split (is_in delims) (piece ++ row_text rest))
      ≡ (at, at + length piece) ∷ spans_at (at + length piece) rest
  fields_at at piece [] none are =
      ap (λ t. spans_from at (slice_split (is_in delims) t)) (append-nil piece)
      ∙ ap (spans_from at) (split_last (is_in delims) piece none)
  fields_at at piece (([], next) ∷ rest) none are = absurd (omega (arith, are.0.0.1))
  fields_at at piece ((b ∷ [], next) ∷ rest) none are =
      let cut = (and_parts (is_in delims b) true are.0.0.0).0 in
      let start = at + length piece + 1 in
      ap (spans_from at) (split_piece (is_in delims) piece b (next ++ row_text rest) none cut)
      ∙ ap (λ l. (at, at + length piece) ∷ l) (fields_at start next rest are.0.1 are.1)
  fields_at at piece ((b ∷ c ∷ gap, next) ∷ rest) none are = absurd (omega (arith, are.0.0.1))

  -- any text as a row
  record IsFieldRow (text : List ℕ) : Type 0 where
    first : List ℕ
    rest : List GapAndPiece
    none : HasNoDelimiter delims first
    are : AreLater rest
    whole : first ++ row_text rest ≡ text

  field_row : (text : List ℕ) → IsFieldRow text
  field_row [] = record { first = []; rest = []; none = refl; are = tt; whole = refl }
  field_row (b ∷ bs) =
      let r = field_row bs in
      elim (cases_Bool (is_in delims b)) [
        | inl cut ↦ record {
          first = [];
          rest = (b ∷ [], r.first) ∷ r.rest;
          none = refl;
          are = (((rw cut refl, refl), r.none), r.are);
          whole = ap (λ l. b ∷ l) r.whole;
        }
        | inr kept ↦ record {
          first = b ∷ r.first;
          rest = r.rest;
          none = rw kept r.none;
          are = r.are;
          whole = ap (λ l. b ∷ l) r.whole;
        }
      ]

  fields_lie : (text : List ℕ) (row : List GapAndPiece) (end : List ℕ) → 0 < length row
      → IsRow (λ edge. edge ≡ []) IsFieldGap (HasNoDelimiter delims) row → end ≡ [] → row_text row ++ end ≡ text
      → field_spans delims text ≡ spans_at 0 row
  fields_lie text [] end some is edge whole = absurd (omega (arith, some))
  fields_lie text ((gap, piece) ∷ rest) end some is edge whole =
      let start : text ≡ piece ++ row_text rest =
      sym whole ∙ ap (λ e. (gap ++ piece ++ row_text rest) ++ e) edge ∙ append-nil (gap ++ piece ++ row_text rest)
      ∙ ap (λ g. g ++ piece ++ row_text rest) is.0 in
      ap (field_spans delims) start ∙ fields_at 0 piece rest is.1 is.2
      ∙ ap (λ g. spans_at 0 ((g, piece) ∷ rest)) (sym is.0)

  pub part_of_fields : (index : ℤ) (count : Option ℤ) (text value : List ℕ)
      → (text_across text (items_at index count (field_spans delims text)) ≡ Some value)
      ↔ IsPartOfFields delims index count text value
  part_of_fields index count text value =
      let r = field_row text in
      let row = ([], r.first) ∷ r.rest in
      let whole : row_text row ++ [] ≡ text = append-nil (row_text row) ∙ r.whole in
      let is : IsRow (λ edge. edge ≡ []) IsFieldGap (HasNoDelimiter delims) row = (refl, r.none, r.are) in (
        is_part (λ edge. edge ≡ []) IsFieldGap (HasNoDelimiter delims) text (field_spans delims text) (fields_lie text) row [] is refl whole
            (fields_lie text row [] (omega arith) is refl whole) index count value,
        part_is (λ edge. edge ≡ []) IsFieldGap (HasNoDelimiter delims) text (field_spans delims text) (fields_lie text) index count value,
      )
