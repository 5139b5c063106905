-- What pins the parts that `field` and `word` give: a text is pieces with gaps of delimiters
-- between them, and a part is consecutive pieces with the gaps between these.
use Rattle.std.specs.Prelude.{◌≡◌, ◌≢◌, ◌⊎◌, ℕ, ◌+◌, ◌-◌, ◌≤◌, true, false, ℤ, pos, negsuc, List, [], ◌∷◌, ◌++◌, length, Option, ⊤}
use Rattle.std.specs.List.{AllByRecursion, flat_map, list_all, list_any}
use Rattle.hx_conv_text.specs.Pieces.{is_in, piece_count}

-- a gap, and the piece after it
abbrev pub GapAndPiece : Type 0
GapAndPiece = List ℕ × List ℕ

-- gaps and pieces in a row
abbrev pub row_text : List GapAndPiece → List ℕ
row_text pieces = flat_map (λ next. next.0 ++ next.1) pieces

-- Gaps and pieces of a text in a row: a gap stands between two pieces, and what stands before the
-- first may be another.
abbrev pub IsRow :
    (List ℕ → Type 0) → (List ℕ → Type 0) → (List ℕ → Type 0) → List GapAndPiece → Type 0
IsRow IsEdge IsGap IsPiece [] = ⊤
IsRow IsEdge IsGap IsPiece (next ∷ pieces) =
    IsEdge next.0 × IsPiece next.1
    × AllByRecursion (λ later. IsGap later.0 × IsPiece later.1) pieces

-- So many pieces are taken: the count, or all where the count is 0 or there are fewer, so that none
-- is left.
abbrev pub AreTakenByCount : (count taken left : ℕ) → Type 0
AreTakenByCount count taken left = (taken ≡ count) ⊎ ((left ≡ 0) × ((count ≡ 0) ⊎ (taken ≤ count)))

-- Of pieces in a row, how many stand before those that an index and a count name, how many these
-- are, and how many stand after them. The index 1 is that of the first piece, and those from there
-- on are taken; -1 is that of the last, and those up to there are taken.
abbrev pub AreNamed : ℤ → ℕ → (before taken after : ℕ) → Type 0
AreNamed (pos n) count before taken after = (before ≡ n - 1) × AreTakenByCount count taken after
AreNamed (negsuc n) count before taken after = (after ≡ n) × AreTakenByCount count taken before

-- The value is the part of a text that an index and a count name. The text is pieces in a row with
-- gaps between them, and the value is those that are named, with the gaps between these. `IsEdge`
-- says what may stand before the first piece of the text and after its last.
pub record IsPartOf (IsEdge IsGap IsPiece : List ℕ → Type 0) (index : ℤ) (count : Option ℤ)
    (text value : List ℕ) : Type 0 where
  pub before : List GapAndPiece
  pub gap : List ℕ
  pub first : List ℕ
  pub others : List GapAndPiece
  pub after : List GapAndPiece
  pub end : List ℕ
  pub row : IsRow IsEdge IsGap IsPiece (before ++ (gap, first) ∷ (others ++ after))
  pub edge : IsEdge end
  pub whole : row_text (before ++ (gap, first) ∷ (others ++ after)) ++ end ≡ text
  pub part : first ++ row_text others ≡ value
  pub named : AreNamed index (piece_count count) (length before) (length others + 1) (length after)

-- no byte is a delimiter
abbrev pub HasNoDelimiter : List ℕ → List ℕ → Type 0
HasNoDelimiter delims bytes = list_any (is_in delims) bytes ≡ false

-- each byte is a delimiter
abbrev pub AreDelimiters : List ℕ → List ℕ → Type 0
AreDelimiters delims bytes = list_all (is_in delims) bytes ≡ true

-- A part of the fields of a text: one delimiter stands between two of them, and nothing before the
-- first and after the last. A field has no delimiter, and may be empty.
abbrev pub IsPartOfFields : List ℕ → ℤ → Option ℤ → (text value : List ℕ) → Type 0
IsPartOfFields delims =
    IsPartOf (λ edge. edge ≡ []) (λ gap. AreDelimiters delims gap × (length gap ≡ 1))
    (HasNoDelimiter delims)

-- A part of the words of a text: at least one delimiter stands between two of them, and any number
-- before the first and after the last. A word has at least one byte, and no delimiter.
abbrev pub IsPartOfWords : List ℕ → ℤ → Option ℤ → (text value : List ℕ) → Type 0
IsPartOfWords delims =
    IsPartOf (AreDelimiters delims) (λ gap. AreDelimiters delims gap × (gap ≢ []))
    (λ word. HasNoDelimiter delims word × (word ≢ []))
