-- How words are written as a line (HAProxy configuration manual 2.6, section 2.2): outside quotes,
-- each byte that has a meaning there after a backslash. `hx_lint::laws::line_reads_back` says that
-- the line has these words.
use Rattle.std.specs.Prelude.{ℕ, ◌==◌, ◌||◌, List, [], ◌∷◌, ◌++◌, codes, flat_map, if◌then◌else◌}
use Rattle.hx_base.specs.Bytes.{ascii}

abbrev pub byte_text : ℕ → List ℕ
byte_text b =
    if b == ascii "\n" then codes "\\n" else
    (if b == ascii "\r" then codes "\\r" else
    (if b == ascii "\t" then codes "\\t" else
    (if b == ascii " " || b == ascii "#" || b == ascii "\\" || b == ascii "'" || b == ascii "\""
    then ascii "\\" ∷ b ∷ [] else b ∷ [])))

abbrev pub word_text : List ℕ → List ℕ
word_text [] = codes "\"\""
word_text (b ∷ bytes) = flat_map byte_text (b ∷ bytes)

-- these words, each after a blank
abbrev pub words_after : List (List ℕ) → List ℕ
words_after words = flat_map (λ word. codes " " ++ word_text word) words

-- the words with a blank between each two
abbrev pub line_text : List (List ℕ) → List ℕ
line_text [] = []
line_text (word ∷ words) = word_text word ++ words_after words
