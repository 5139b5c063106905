-- The words of a line of the management socket (HAProxy management guide 2.4, section 9.3).
use Rattle.std.specs.Prelude.{ℕ, ◌==◌, nat_lt, List, [], ◌∷◌, length, map, filter, filter_map, Option, None, Some, is_none, if◌then◌else◌}
use Rattle.std.specs.List.{slice_split}
use Rattle.hx_base.specs.Bytes.{ascii, is_blank}

-- a byte that no backslash stands before: a blank is a gap between words, and any other byte is
-- part of one
abbrev pub gap_or_byte : ℕ → Option ℕ
gap_or_byte b = if is_blank b then None else Some b

-- The gaps of a line, and the bytes of its words. A backslash stands for the byte after it, which
-- is part of a word whatever it is, and for itself where none follows.
abbrev pub line_bytes : List ℕ → List (Option ℕ)
line_bytes [] = []
line_bytes (b ∷ []) = gap_or_byte b ∷ []
line_bytes (b ∷ next ∷ rest) =
    if b == ascii "\\" then Some next ∷ line_bytes rest
    else gap_or_byte b ∷ line_bytes (next ∷ rest)

-- the longest runs without a gap, each as its bytes
abbrev pub runs : List (Option ℕ) → List (List ℕ)
runs bytes =
    map (filter_map (λ b. b)) (filter (λ run. nat_lt 0 (length run)) (slice_split is_none bytes))

-- the words of a line
abbrev pub words_of : List ℕ → List (List ℕ)
words_of line = runs (line_bytes line)
