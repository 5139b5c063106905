-- The values of a header line: what stands between the commas outside its quoted strings (HAProxy
-- configuration manual 2.4 section 7.3.6, RFC 9110 sections 5.6.1 and 5.6.4).
use Rattle.std.specs.Prelude.{ℕ, Bool, false, ◌==◌, List, [], ◌∷◌, ◌++◌, map, if◌then◌else◌}
use Rattle.std.specs.List.{scan, slice_split}
use Rattle.hx_base.specs.Bytes.{ascii}
use Rattle.hx_lists.specs.Blanks.{trim_blanks}

-- where in a line a byte stands: outside quoted strings, within one, or after a backslash in one
pub data Quoting : Type 0 where
  Outside Quoted Escaped : Quoting

-- What a byte makes of it: `"` begins and ends a quoted string, and within one a backslash makes a
-- pair with the byte after it, which ends nothing.
abbrev pub quoting_after : Quoting → ℕ → Quoting
quoting_after Outside b = if b == ascii "\"" then Quoted else Outside
quoting_after Quoted b =
    if b == ascii "\\" then Escaped else (if b == ascii "\"" then Outside else Quoted)
quoting_after Escaped b = Quoted

-- each byte of a text beside where it stands, by the bytes before it; the text begins at `quoting`
abbrev pub bytes_with_quoting : Quoting → List ℕ → List (Quoting × ℕ)
bytes_with_quoting quoting bytes = scan quoting_after (λ before b. (before, b)) quoting bytes

-- a comma outside quoted strings
abbrev pub is_cut : Quoting × ℕ → Bool
is_cut (Outside, b) = b == ascii ","
is_cut _ = false

-- A line, cut at the commas outside quoted strings. Empty pieces count, and the empty line is one.
abbrev pub hdr_pieces : List ℕ → List (List ℕ)
hdr_pieces line = map (map (λ byte. byte.1)) (slice_split is_cut (bytes_with_quoting Outside line))

-- the pieces, with bytes put before the first
abbrev pub pieces_with_prefix : List ℕ → List (List ℕ) → List (List ℕ)
pieces_with_prefix bytes [] = bytes ∷ []
pieces_with_prefix bytes (piece ∷ pieces) = (bytes ++ piece) ∷ pieces

-- the values of a line: its pieces without the blanks at their ends
abbrev pub hdr_values : List ℕ → List (List ℕ)
hdr_values line = map trim_blanks (hdr_pieces line)
