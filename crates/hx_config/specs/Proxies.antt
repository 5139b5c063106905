-- The proxies of a file, and the lines that hold for one: those of its own section, and those of
-- the `defaults` from which it takes its settings (HAProxy configuration manual 2.6, section 4).
use Rattle.std.specs.Prelude.{ℕ, nat_lt, ◌+◌, ◌==◌, Bool, true, ◌&&◌, ◌||◌, List, [], ◌∷◌, codes, length, Option, None, Some, if◌then◌else◌}
use Rattle.std.specs.List.{list_any}
use Rattle.std.specs.Option.{option_map_or}
use Rattle.std.specs.Str.{bytes_eq}
use Rattle.hx_config.specs.Frontends.{takes_traffic}
use Rattle.hx_config.specs.Lines.{Line}
use Rattle.hx_config.specs.Titles.{word_at}

-- ---- titles

-- what follows `from`, where it is the word at this position
abbrev pub from_at : ℕ → List (List ℕ) → Option (List ℕ)
from_at i words =
    if bytes_eq (word_at i words) (codes "from") && nat_lt (i + 1) (length words)
    then Some (word_at (i + 1) words) else None

abbrev pub is_defaults : List (List ℕ) → Bool
is_defaults words = bytes_eq (word_at 0 words) (codes "defaults")

-- The `defaults` that a title names by `from`, below its keyword and its name. The name of a
-- `defaults` section may be missing.
abbrev pub from_of : List (List ℕ) → Option (List ℕ)
from_of words =
    if is_defaults words && bytes_eq (word_at 1 words) (codes "from") then from_at 1 words
    else from_at 2 words

-- this is the title of a `defaults` section, of this name where one is wanted
abbrev pub is_wanted : Option (List ℕ) → List (List ℕ) → Bool
is_wanted wanted words =
    is_defaults words && option_map_or (λ name. bytes_eq (word_at 1 words) name) wanted true

-- this is the title of a section that takes traffic and has this name
abbrev pub is_named : List ℕ → List (List ℕ) → Bool
is_named name words =
    takes_traffic (word_at 0 words) && (nat_lt 1 (length words) && bytes_eq (word_at 1 words) name)

-- this is the title of a backend of this name: `backend`, or `listen`
abbrev pub is_backend : List ℕ → List (List ℕ) → Bool
is_backend name words =
    (bytes_eq (word_at 0 words) (codes "backend") || bytes_eq (word_at 0 words) (codes "listen"))
    && (nat_lt 1 (length words) && bytes_eq (word_at 1 words) name)

-- ---- proxies

-- The sections of the `defaults` from which settings are taken: without a wanted name the last
-- above, else the last of that name, and then those that this one names by `from`. The lines are
-- those above, the nearest first.
abbrev pub defaults_above : Option (List ℕ) → List Line → List ℕ
defaults_above wanted [] = []
defaults_above wanted (line ∷ up) =
    if is_wanted wanted line.words
    then line.number
    ∷ option_map_or (λ name. defaults_above (Some name) up) (from_of line.words) []
    else defaults_above wanted up

-- the sections whose lines hold for a proxy, its own first; `up` are the lines above its title
abbrev pub sections_at : (title : Line) → (up : List Line) → List ℕ
sections_at title up = title.number ∷ defaults_above (from_of title.words) up

-- those of the first frontend or `listen` section of this name
abbrev pub sections_below : (up : List Line) → (name : List ℕ) → List Line → Option (List ℕ)
sections_below up name [] = None
sections_below up name (line ∷ lines) =
    if is_named name line.words then Some (sections_at line up)
    else sections_below (line ∷ up) name lines

abbrev pub sections_of : List ℕ → List Line → Option (List ℕ)
sections_of name lines = sections_below [] name lines

-- a line holds for the proxy of these sections
abbrev pub holds : List ℕ → Line → Bool
holds sections line = list_any (λ section. section == line.section) sections

abbrev pub has_backend : List ℕ → List Line → Bool
has_backend name lines = list_any (λ line. is_backend name line.words) lines
