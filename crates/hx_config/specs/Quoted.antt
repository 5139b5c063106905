-- Arguments of a call in double quotes, as hx_words reads them: a backslash or a double quote
-- stands there after a backslash. `hxconfig::laws::replacement_reads_back` says that such arguments
-- are read as these texts.
use Rattle.std.specs.Prelude.{ℕ, ◌==◌, ◌||◌, List, [], ◌∷◌, ◌++◌, codes, flat_map, if◌then◌else◌}
use Rattle.hx_base.specs.Bytes.{ascii}

abbrev pub quoted_byte : ℕ → List ℕ
quoted_byte b =
    if b == ascii "\\" || b == ascii "\"" then ascii "\\" ∷ b ∷ [] else b ∷ []

abbrev pub quoted : List ℕ → List ℕ
quoted text = codes "\"" ++ flat_map quoted_byte text ++ codes "\""
