-- The titles of sections (HAProxy configuration manual 2.6, sections 2.1, 3, 4, 6, 10 and 11): a
-- line whose first word is the keyword of a section begins one.
use Rattle.std.specs.Prelude.{ℕ, Bool, List, [], slice_index_or}
use Rattle.std.specs.List.{list_any}
use Rattle.std.specs.Str.{bytes_eq}
use Rattle.hx_config.specs.declared.titles.TheConstants.{SECTIONS}

-- the words of a line
abbrev pub Words : Type 0
Words = List (List ℕ)

-- the word at this position, and no bytes where there is none
abbrev pub word_at : ℕ → List (List ℕ) → List ℕ
word_at i words = slice_index_or words i []

-- a line of these words is the title of a section
abbrev pub is_title : List (List ℕ) → Bool
is_title words = list_any (λ keyword. bytes_eq (word_at 0 words) keyword.now) SECTIONS
