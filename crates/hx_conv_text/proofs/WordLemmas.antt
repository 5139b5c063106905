-- The words of a text are the pieces of a row with delimiters between them.
use Rattle.std.proofs.Common.{◌≡◌, ◌≢◌, ◌↔◌, ℕ, suc, ◌+◌, ◌<◌, Bool, true, false, ℤ, List, [], ◌∷◌, ◌++◌, length, nat_lt, Option, Some, refl, sym, ap, ◌∙◌, inl, inr, arith, append-nil, append_assoc}
use Rattle.std.specs.Prelude.{⊤}
use Rattle.std.specs.List.{AllByRecursion, filter, list_all, list_any, slice_split}
use Rattle.std.proofs.lemmas.Bool.{and_parts, cases_Bool, le-ltb, lt-ltb}
use Rattle.std.proofs.lemmas.List.Splits.{slice_split-cons_yes}
use Rattle.hx_conv_text.specs.Cuts.{AreDelimiters, GapAndPiece, HasNoDelimiter, IsPartOfWords, IsRow, row_text}
use Rattle.hx_conv_text.specs.Pieces.{is_in, items_at, spans_from, text_across, word_spans}
use Rattle.hx_conv_text.specs.Scanning.{is_filled}
use Rattle.hx_conv_text.proofs.FieldLemmas.{split_last, split_piece}
use Rattle.hx_conv_text.proofs.PartLemmas.{is_part, part_is}
use Rattle.hx_conv_text.proofs.RowLemmas.{spans_at}

module _ (p : ℕ → Bool) where
  -- the words of a text that begins at a position
  abbrev words_from : ℕ → List ℕ → List (ℕ × ℕ)
  words_from at text = filter is_filled (spans_from at (slice_split p text))

  -- delimiters before a word
  gap_skipped : (at : ℕ) (gap rest : List ℕ) → list_all p gap ≡ true
      → words_from at (gap ++ rest) ≡ words_from (at + length gap) rest
  gap_skipped at [] rest all = ap (λ k. words_from k rest) (let e : at ≡ at + 0 = omega arith in e)
  gap_skipped at (b ∷ gap) rest all =
      let parts = and_parts (p b) (list_all p gap) all in
      let none : nat_lt at (at + 0) ≡ false = le-ltb at (at + 0) (omega arith) in
      let next : at + 0 + 1 + length gap ≡ at + suc (length gap) = omega arith in
      ap (λ l. filter is_filled (spans_from at l)) (slice_split-cons_yes p b (gap ++ rest) parts.0)
      ∙ rw none (gap_skipped (at + 0 + 1) gap rest parts.1)
      ∙ ap (λ k. words_from k rest) next

  none_left : (at : ℕ) → words_from at [] ≡ []
  none_left at = rw (le-ltb at (at + 0) (omega arith)) refl

  end_skipped : (at : ℕ) (end : List ℕ) → list_all p end ≡ true → words_from at end ≡ []
  end_skipped at end all =
      ap (words_from at) (sym (append-nil end)) ∙ gap_skipped at end [] all ∙ none_left (at + length end)

  -- a word ends before these bytes
  abbrev EndsWord : List ℕ → Type 0
  EndsWord [] = ⊤
  EndsWord (b ∷ rest) = p b ≡ true

  ends_before : (gap rest : List ℕ) → list_all p gap ≡ true → gap ≢ [] → EndsWord (gap ++ rest)
  ends_before [] rest all some = absurd (some refl)
  ends_before (b ∷ gap) rest all some = (and_parts (p b) (list_all p gap) all).0

  ends_at_end : (end : List ℕ) → list_all p end ≡ true → EndsWord end
  ends_at_end [] all = tt
  ends_at_end (b ∷ end) all = (and_parts (p b) (list_all p end) all).0

  has_byte : (word : List ℕ) → word ≢ [] → 0 < length word
  has_byte [] some = absurd (some refl)
  has_byte (b ∷ word) some = omega arith

  word_taken : (at : ℕ) (word rest : List ℕ) → list_any p word ≡ false → word ≢ [] → EndsWord rest
      → words_from at (word ++ rest) ≡ (at, at + length word) ∷ words_from (at + length word) rest
  word_taken at word [] none some ends =
      let k = at + length word in
      let filled : nat_lt at k ≡ true = lt-ltb at k (omega (arith, has_byte word some)) in
      ap (words_from at) (append-nil word)
      ∙ ap (λ l. filter is_filled (spans_from at l)) (split_last p word none)
      ∙ rw filled (ap (λ l. (at, k) ∷ l) (sym (none_left k)))
  word_taken at word (b ∷ rest) none some ends =
      let k = at + length word in
      let filled : nat_lt at k ≡ true = lt-ltb at k (omega (arith, has_byte word some)) in
      let delimiter : list_all p (b ∷ []) ≡ true = rw ends refl in
      ap (λ l. filter is_filled (spans_from at l)) (split_piece p word b rest none ends)
      ∙ rw filled (ap (λ l. (at, k) ∷ l) (sym (gap_skipped k (b ∷ []) rest delimiter)))

module _ (delims : List ℕ) where
  abbrev IsWordGap : List ℕ → Type 0
  IsWordGap gap = AreDelimiters delims gap × (gap ≢ [])

  abbrev IsWord : List ℕ → Type 0
  IsWord word = HasNoDelimiter delims word × (word ≢ [])

  abbrev AreLater : List GapAndPiece → Type 0
  AreLater = AllByRecursion (λ (later : GapAndPiece). IsWordGap later.0 × IsWord later.1)

  words_at : (at : ℕ) (gap word : List ℕ) (rest : List GapAndPiece) (end : List ℕ) → AreDelimiters delims gap
      → IsWord word → AreLater rest → AreDelimiters delims end
      → words_from (is_in delims) at (gap ++ (word ++ (row_text rest ++ end))) ≡ spans_at at ((gap, word) ∷ rest)
  words_at at gap word [] end all is are edge =
      let start = at + length gap in
      let k = start + length word in
      gap_skipped (is_in delims) at gap (word ++ end) all
      ∙ word_taken (is_in delims) start word end is.0 is.1 (ends_at_end (is_in delims) end edge)
      ∙ ap (λ l. (start, k) ∷ l) (end_skipped (is_in delims) k end edge)
  words_at at gap word ((next, later) ∷ rest) end all is are edge =
      let start = at + length gap in
      let k = start + length word in
      let after : row_text ((next, later) ∷ rest) ++ end ≡ next ++ (later ++ (row_text rest ++ end)) =
      append_assoc (next ++ later) (row_text rest) end ∙ append_assoc next later (row_text rest ++ end) in
      ap (λ l. words_from (is_in delims) at (gap ++ (word ++ l))) after
      ∙ gap_skipped (is_in delims) at gap (word ++ (next ++ (later ++ (row_text rest ++ end)))) all
      ∙ word_taken (is_in delims) start word (next ++ (later ++ (row_text rest ++ end))) is.0 is.1
      (ends_before (is_in delims) next (later ++ (row_text rest ++ end)) are.0.0.0 are.0.0.1)
      ∙ ap (λ l. (start, k) ∷ l) (words_at k next later rest end are.0.0.0 are.0.1 are.1 edge)

  -- any text as a row
  record IsWordRow (text : List ℕ) : Type 0 where
    row : List GapAndPiece
    end : List ℕ
    is : IsRow (AreDelimiters delims) IsWordGap IsWord row
    edge : AreDelimiters delims end
    whole : row_text row ++ end ≡ text

  with_delimiter : (b : ℕ) (text : List ℕ) → is_in delims b ≡ true → (row : List GapAndPiece) (end : List ℕ)
      → IsRow (AreDelimiters delims) IsWordGap IsWord row → AreDelimiters delims end
      → row_text row ++ end ≡ text → IsWordRow (b ∷ text)
  with_delimiter b text cut [] end is edge whole =
      record { row = []; end = b ∷ end; is = tt; edge = rw cut edge; whole = ap (λ l. b ∷ l) whole }
  with_delimiter b text cut ((gap, word) ∷ rest) end is edge whole = record {
    row = (b ∷ gap, word) ∷ rest;
    end = end;
    is = (rw cut is.0, is.1, is.2);
    edge = edge;
    whole = ap (λ l. b ∷ l) whole;
  }

  with_byte : (b : ℕ) (text : List ℕ) → is_in delims b ≡ false → (row : List GapAndPiece) (end : List ℕ)
      → IsRow (AreDelimiters delims) IsWordGap IsWord row → AreDelimiters delims end
      → row_text row ++ end ≡ text → IsWordRow (b ∷ text)
  with_byte b text kept [] end is edge whole = record {
    row = ([], b ∷ []) ∷ [];
    end = end;
    is = (refl, (rw kept refl, λ e. cc), tt);
    edge = edge;
    whole = ap (λ l. b ∷ l) whole;
  }
  with_byte b text kept (([], word) ∷ rest) end is edge whole = record {
    row = ([], b ∷ word) ∷ rest;
    end = end;
    is = (refl, (rw kept is.1.0, λ e. cc), is.2);
    edge = edge;
    whole = ap (λ l. b ∷ l) whole;
  }
  with_byte b text kept ((c ∷ gap, word) ∷ rest) end is edge whole = record {
    row = ([], b ∷ []) ∷ (c ∷ gap, word) ∷ rest;
    end = end;
    is = (refl, (rw kept refl, λ e. cc), (((is.0, λ e. cc), is.1), is.2));
    edge = edge;
    whole = ap (λ l. b ∷ l) whole;
  }

  word_row : (text : List ℕ) → IsWordRow text
  word_row [] = record { row = []; end = []; is = tt; edge = refl; whole = refl }
  word_row (b ∷ bs) =
      let r = word_row bs in
      elim (cases_Bool (is_in delims b)) [
        | inl cut ↦ with_delimiter b bs cut r.row r.end r.is r.edge r.whole
        | inr kept ↦ with_byte b bs kept r.row r.end r.is r.edge r.whole
      ]

  words_lie : (text : List ℕ) (row : List GapAndPiece) (end : List ℕ)
      → IsRow (AreDelimiters delims) IsWordGap IsWord row → AreDelimiters delims end → row_text row ++ end ≡ text
      → word_spans delims text ≡ spans_at 0 row
  words_lie text [] end is edge whole = ap (word_spans delims) (sym whole) ∙ end_skipped (is_in delims) 0 end edge
  words_lie text ((gap, word) ∷ rest) end is edge whole =
      let start : text ≡ gap ++ (word ++ (row_text rest ++ end)) =
      sym whole ∙ append_assoc (gap ++ word) (row_text rest) end ∙ append_assoc gap word (row_text rest ++ end) in
      ap (word_spans delims) start ∙ words_at 0 gap word rest end is.0 is.1 is.2 edge

  words_lie_in : (text : List ℕ) (row : List GapAndPiece) (end : List ℕ) → 0 < length row
      → IsRow (AreDelimiters delims) IsWordGap IsWord row → AreDelimiters delims end → row_text row ++ end ≡ text
      → word_spans delims text ≡ spans_at 0 row
  words_lie_in text row end some = words_lie text row end

  pub part_of_words : (index : ℤ) (count : Option ℤ) (text value : List ℕ)
      → (text_across text (items_at index count (word_spans delims text)) ≡ Some value)
      ↔ IsPartOfWords delims index count text value
  part_of_words index count text value =
      let r = word_row text in
      let spans = word_spans delims text in (
        is_part (AreDelimiters delims) IsWordGap IsWord text spans (words_lie_in text) r.row r.end r.is r.edge r.whole
            (words_lie text r.row r.end r.is r.edge r.whole) index count value,
        part_is (AreDelimiters delims) IsWordGap IsWord text spans (words_lie_in text) index count value,
      )
