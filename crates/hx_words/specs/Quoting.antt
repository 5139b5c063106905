-- Quotes and backslashes, as HAProxy's configuration manual 2.4, section 2.2, has them: the same in
-- the words of a line and in the arguments of a call. What becomes of pairs that the manual doesn't
-- name is this project's own choice.
use Rattle.std.specs.Prelude.{ℕ, ◌+◌, ◌*◌, ◌==◌, ◌&&◌, ◌||◌, if◌then◌else◌, List, [], ◌∷◌, Option, Some, None}
use Rattle.std.specs.Char.{digit_value, is_digit}
use Rattle.hx_base.specs.Bytes.{ascii}
use Rattle.hx_words.specs.TextItems.{QuoteState, TextItem, part_or}
use Rattle.hx_words.specs.TextItems.QuoteState.{Outside, Single, Double}
use Rattle.hx_words.specs.TextItems.TextItem.{Part}

-- A backslash is given with how many of the bytes after it belong to it, and the bytes that it
-- stands for.

-- `\x` with these bytes after it: the byte of the next two where they are hex digits, else nothing
abbrev pub hex_escape : List ℕ → Option (ℕ × List ℕ)
hex_escape (high ∷ low ∷ _) =
    if is_digit high 16 && is_digit low 16
    then Some (3, (16 * digit_value high + digit_value low) ∷ []) else None
hex_escape _ = None

-- a backslash outside single quotes with these bytes after it: some bytes it makes plain, a pair
-- that no row names stays as it is, and so does a backslash at the end
unfoldable pub escape_of : List ℕ → Option (ℕ × List ℕ)
escape_of [] = Some (0, ascii "\\" ∷ [])
escape_of (c ∷ cs) =
    if c == ascii " " || c == ascii "#" || c == ascii "\\" || c == ascii "'" || c == ascii "\""
    then Some (1, c ∷ []) else
    (if c == ascii "n" then Some (1, ascii "\n" ∷ []) else
    (if c == ascii "r" then Some (1, ascii "\r" ∷ []) else
    (if c == ascii "t" then Some (1, ascii "\t" ∷ []) else
    (if c == ascii "x" then hex_escape cs else Some (1, ascii "\\" ∷ c ∷ [])))))

-- The part that begins with byte b, where the bytes bs follow: the beginning or the end of a quote,
-- a backslash outside single quotes, and any other byte as itself. `wrong` is the ending where the
-- backslash stands for nothing.
abbrev pub part_at : {E : Type 0} → E → QuoteState → ℕ → List ℕ → TextItem E
part_at wrong Outside b bs =
    if b == ascii "\"" then Part 0 [] Double else
    (if b == ascii "'" then Part 0 [] Single else
    (if b == ascii "\\" then part_or wrong Outside (escape_of bs) else Part 0 (b ∷ []) Outside))
part_at wrong Double b bs =
    if b == ascii "\"" then Part 0 [] Outside else
    (if b == ascii "\\" then part_or wrong Double (escape_of bs) else Part 0 (b ∷ []) Double)
part_at wrong Single b bs = if b == ascii "'" then Part 0 [] Outside else Part 0 (b ∷ []) Single
