-- What takes traffic in a file: its frontends, and its `listen` sections, which are a frontend and
-- a backend in one (HAProxy configuration manual 2.6, section 4).
use Rattle.std.specs.Prelude.{ℕ, Bool, ◌||◌, List, [], ◌∷◌, ◌++◌, codes, flat_map, if◌then◌else◌}
use Rattle.std.specs.Fmt.{decimal}
use Rattle.std.specs.Str.{bytes_eq}
use Rattle.hx_config.specs.Lines.{Line}

-- the keyword of a section that takes traffic
abbrev pub takes_traffic : List ℕ → Bool
takes_traffic keyword = bytes_eq keyword (codes "frontend") || bytes_eq keyword (codes "listen")

-- `LINE KEYWORD NAME`
abbrev pub entry : (number : ℕ) → (keyword name : List ℕ) → List ℕ
entry number keyword name =
    decimal number ++ (codes " " ++ (keyword ++ (codes " " ++ (name ++ codes "\n"))))

-- the entry of a line that begins a section which takes traffic and has a name; no text of another
abbrev pub entry_by : ℕ → List (List ℕ) → List ℕ
entry_by number [] = []
entry_by number (keyword ∷ []) = []
entry_by number (keyword ∷ name ∷ more) =
    if takes_traffic keyword then entry number keyword name else []

abbrev pub entry_of : Line → List ℕ
entry_of line = entry_by line.number line.words

-- the text of `frontends`: the entries, in the order of their lines
abbrev pub frontends_text : List Line → List ℕ
frontends_text lines = flat_map entry_of lines
