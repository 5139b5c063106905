-- What pins the cuts: each is the one list of pieces that has these facts.
use Rattle.std.specs.Prelude.{◌≡◌, ◌≢◌, ℕ, ◌+◌, Bool, true, false, List, [], ◌∷◌, ◌++◌, fold, length, ⊤}
use Rattle.std.specs.List.{AllByRecursion, join_with_byte, list_any, prefix_len, suffix_len}
use Rattle.hx_base.specs.Bytes.{ascii, is_blank}
use Rattle.hx_lists.specs.HeaderValues.{Quoting, Outside, quoting_after, bytes_with_quoting, is_cut}

-- P holds of each element but the last
abbrev pub AllButLast : {X : Type 0} → (X → Type 0) → List X → Type 0
AllButLast P [] = ⊤
AllButLast P (x ∷ []) = ⊤
AllButLast P (x ∷ y ∷ ys) = P x × AllButLast P (y ∷ ys)

-- the text has a comma outside its quoted strings
abbrev pub has_cut : List ℕ → Bool
has_cut text = list_any is_cut (bytes_with_quoting Outside text)

-- the byte stands outside quoted strings
abbrev pub is_outside : Quoting → Bool
is_outside Outside = true
is_outside _ = false

-- each quoted string of the text ends within it
abbrev pub ends_outside : List ℕ → Bool
ends_outside text = is_outside (fold quoting_after Outside text)

-- What may stand within a quoted string (RFC 9110 section 5.6.4): bytes other than `"` and
-- backslash, and pairs of a backslash and any byte.
pub data IsQuotedText : List ℕ → Type 0 where
  Nothing : IsQuotedText []
  Plain : (b : ℕ) (rest : List ℕ) → b ≢ ascii "\"" → b ≢ ascii "\\" → IsQuotedText rest
      → IsQuotedText (b ∷ rest)
  Pair : (b : ℕ) (rest : List ℕ) → IsQuotedText rest → IsQuotedText (ascii "\\" ∷ b ∷ rest)

-- The pieces of a line, cut at each comma outside quoted strings and nowhere else: joined by commas
-- they are the line, no piece has such a comma, and no quoted string goes on after a piece that
-- another follows.
pub record IsCutAtCommas (pieces : List (List ℕ)) (line : List ℕ) : Type 0 where
  pub some : pieces ≢ []
  pub joined : join_with_byte (ascii ",") pieces ≡ line
  pub uncut : AllByRecursion (λ piece. has_cut piece ≡ false) pieces
  pub closed : AllButLast (λ piece. ends_outside piece ≡ true) pieces

-- the pieces in a row, with the separators between them
abbrev pub text_of_pieces : List (List ℕ) → List ℕ → List ℕ
text_of_pieces [] separators = []
text_of_pieces (piece ∷ pieces) [] = piece
text_of_pieces (piece ∷ pieces) (separator ∷ separators) =
    piece ++ separator ∷ text_of_pieces pieces separators

-- The pieces of a text, cut at each byte that separates and nowhere else: with such bytes between
-- them they are the text, and no piece has one.
pub record IsCutAt (separates : ℕ → Bool) (pieces : List (List ℕ)) (text : List ℕ) : Type 0 where
  pub separators : List ℕ
  pub count : length pieces ≡ length separators + 1
  pub separate : AllByRecursion (λ b. separates b ≡ true) separators
  pub joined : text_of_pieces pieces separators ≡ text
  pub uncut : AllByRecursion (λ piece. list_any separates piece ≡ false) pieces

-- The bytes without the blanks at their ends: these stand before and after, and none is left at
-- either end.
pub record IsTrimmed (bytes trimmed : List ℕ) : Type 0 where
  pub before : List ℕ
  pub after : List ℕ
  pub whole : before ++ (trimmed ++ after) ≡ bytes
  pub blank_before : AllByRecursion (λ b. is_blank b ≡ true) before
  pub blank_after : AllByRecursion (λ b. is_blank b ≡ true) after
  pub no_blank_first : prefix_len is_blank trimmed ≡ 0
  pub no_blank_last : suffix_len is_blank trimmed ≡ 0
