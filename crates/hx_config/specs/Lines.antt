-- The lines of a file, each with its number, its section, its text and its words (HAProxy
-- configuration manual 2.6, sections 2.1 and 2.2).
use Rattle.std.specs.Prelude.{ℕ, ◌+◌, List, [], ◌∷◌, Result, Ok, Err, if◌then◌else◌}
use Rattle.hx_words.specs.Variable.{Env}
use Rattle.hx_words.specs.Words.{words_of}
use Rattle.hx_words.specs.declared.fault.WordFault.{WordFault}
use Rattle.hx_lint.specs.Texts.{texts_in}
use Rattle.hx_config.specs.Titles.{is_title}

-- A line. Its section is the number of the title above it, or its own where it is a title, and 0
-- above the first. The words of a line whose words can't be read are none: it is no title, and no
-- table speaks of it.
pub record Line : Type 0 where
  pub number : ℕ
  pub section : ℕ
  pub text : List ℕ
  pub words : List (List ℕ)

abbrev pub words_or_none : Result (List (List ℕ)) WordFault → List (List ℕ)
words_or_none (Ok words) = words
words_or_none (Err fault) = []

abbrev pub line_with : (number above : ℕ) → List ℕ → List (List ℕ) → Line
line_with number above text words = record {
  number = number;
  section = if is_title words then number else above;
  text = text;
  words = words;
}

-- the line with this number and this text, below a line of the section `above`
unfoldable pub line_at : Env → (number above : ℕ) → List ℕ → Line
line_at env number above text =
    line_with number above text (words_or_none (words_of env text))

-- these texts as lines, the first with this number
abbrev pub lines_from : Env → (number above : ℕ) → List (List ℕ) → List Line
lines_from env number above [] = []
lines_from env number above (text ∷ texts) =
    line_at env number above text
    ∷ lines_from env (number + 1) (line_at env number above text).section texts

-- the lines of a file, counted from 1
unfoldable pub lines_of : Env → List ℕ → List Line
lines_of env file = lines_from env 1 0 (texts_in file)
