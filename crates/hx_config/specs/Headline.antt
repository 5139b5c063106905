-- The theorem on what is written at status 0, to be read first: what stands for each line of a file.
-- The functions of `Configuration` make one text that this relation allows, and no other.
use Rattle.std.specs.Prelude.{◌≡◌, ◌≢◌, ◌&&◌, ℕ, true, false, not, List, [], ◌∷◌, ◌++◌, codes, flat_map, map, Option, Some, ⊤}
use Rattle.std.specs.Io.KnownBytes.{Appends}
use Rattle.std.specs.Str.{bytes_eq}
use Rattle.hx_config.specs.Addresses.{address_words}
use Rattle.hx_config.specs.Command.{Question, WhatTakesTraffic, ConfigurationOf, WhatToTell}
use Rattle.hx_config.specs.Conditions.{Tls}
use Rattle.hx_config.specs.Configuration.{selection_of, notes_text}
use Rattle.hx_config.specs.Fates.{Selection, is_set_anew, known_at, same_words, words_of_hxeval}
use Rattle.hx_config.specs.Frontends.{frontends_text}
use Rattle.hx_config.specs.LeftOut.{reason_left_out}
use Rattle.hx_config.specs.Lines.{Line, lines_of}
use Rattle.hx_config.specs.Proxies.{holds}
use Rattle.hx_config.specs.Run.{Setting, HasContent}
use Rattle.hx_lint.specs.Report.{lint_text}
use Rattle.hx_words.specs.Variable.{Env}
use Rattle.hx_config.specs.Said.{Words}
use Rattle.hx_lint.specs.Spelling.{line_text}
use Rattle.hx_config.specs.Titles.{is_title, word_at}

-- what stands for a line: a text at its number, and texts below the last line of the file
pub record Part : Type 0 where
  pub here : List ℕ
  pub later : List (List ℕ)

abbrev pub nothing : Part
nothing = record { here = []; later = [] }

abbrev pub at_its_number : List ℕ → Part
at_its_number text = record { here = text; later = [] }

-- This stands for a line, with these lines below it.
pub data StandsFor (chosen : Selection) (below : List Line) (line : Line) : Part → Type 0 where
  -- nothing for a line that doesn't hold for the frontend, and for the title of a section
  NotHeld : holds chosen.sections line ≡ false → StandsFor chosen below line nothing
  Title : is_title line.words ≡ true → StandsFor chosen below line nothing
  -- nothing for a line that a later one sets anew, or that a row of the tables leaves out
  SetAnew : is_set_anew chosen.sections below line.words ≡ true
      → StandsFor chosen below line nothing
  RowLeavesOut : (reason : List ℕ) → reason_left_out line.words ≡ Some reason
      → StandsFor chosen below line nothing
  -- the backend that a `listen` section is, where no line that holds says a default backend
  OwnBackend : is_title line.words ≡ true
      → (bytes_eq (word_at 0 line.words) (codes "listen") && not chosen.has_default) ≡ true
      → StandsFor chosen below line
      (at_its_number (line_text (codes "default_backend" ∷ word_at 1 line.words ∷ [])))
  -- the words that the tables have for it, at its number, or below as a rule
  InOtherWords : same_words (words_of_hxeval (known_at chosen line) line.words) line.words ≡ false
      → StandsFor chosen below line
      (at_its_number (line_text (words_of_hxeval (known_at chosen line) line.words)))
  AsLastRule : (words : Words) → address_words line.words ≡ Some words
      → StandsFor chosen below line (record { here = []; later = line_text words ∷ [] })
  -- its own text for a line that holds and is no title
  Itself : holds chosen.sections line ≡ true → is_title line.words ≡ false
      → StandsFor chosen below line (at_its_number line.text)

-- These stand for lines, one for each.
abbrev pub StandFor : Selection → List Line → List Part → Type 0
StandFor chosen [] [] = ⊤
StandFor chosen (line ∷ lines) (part ∷ parts) =
    StandsFor chosen lines line part × StandFor chosen lines parts
StandFor chosen _ _ = ⊥

-- these texts as lines
abbrev pub as_lines : List (List ℕ) → List ℕ
as_lines texts = flat_map (λ text. text ++ codes "\n") texts

-- The text has what stands for each line at the number of that line, and then what stands below. No
-- line of the file is missing, and none is added that no line stands for.
pub record IsConfiguration (chosen : Selection) (lines : List Line) (text : List ℕ) : Type 0 where
  pub parts : List Part
  pub stand : StandFor chosen lines parts
  pub is : text ≡ as_lines (map (λ part. part.here) parts)
      ++ as_lines (flat_map (λ part. part.later) parts)

-- the frontend is in the file of this name; its configuration was written, and notes on its lines
pub record WritesConfiguration (name : List ℕ) (tls : Tls) (file : List ℕ) (lines : List Line)
    (old new notes_old notes_new : Option (List ℕ)) : Type 0 where
  pub chosen : Selection
  pub of_file : selection_of name tls lines ≡ Some chosen
  pub text : List ℕ
  pub is : IsConfiguration chosen lines text
  pub written : Appends old new text
  pub told : Appends notes_old notes_new (notes_text file chosen lines)

-- there is nothing to tell of a file, and nothing was written
pub record TellsNothing (env : Env) (content : List ℕ)
    (old new notes_old notes_new : Option (List ℕ)) : Type 0 where
  pub is : lint_text env content ≡ []
  pub written : Appends old new []
  pub noted : Appends notes_old notes_new []

-- what a question asks for was written
abbrev pub IsWritten : Question → Env → (file content : List ℕ)
    → (old new notes_old notes_new : Option (List ℕ)) → Type 0
IsWritten WhatTakesTraffic env file content old new notes_old notes_new =
    Appends old new (frontends_text (lines_of env content)) × Appends notes_old notes_new []
IsWritten (ConfigurationOf name tls) env file content old new notes_old notes_new =
    WritesConfiguration name tls file (lines_of env content) old new notes_old notes_new
IsWritten WhatToTell env file content old new notes_old notes_new =
    TellsNothing env content old new notes_old notes_new

-- The headline. The file has this content, and of its lines exactly what is asked for was written.
pub record Headline (s : Setting) (old new notes_old notes_new : Option (List ℕ)) : Type 0 where
  pub content : List ℕ
  pub of_file : HasContent s (Some content)
  pub is : IsWritten s.request.question s.env s.request.file content
      old new notes_old notes_new

-- The headline of status 1. The file has this content; of the lines of a configuration of hxeval
-- exactly what there is to tell was written, and it is something.
pub record Tells (s : Setting) (old new notes_old notes_new : Option (List ℕ)) : Type 0 where
  pub content : List ℕ
  pub of_file : HasContent s (Some content)
  pub asked : s.request.question ≡ WhatToTell
  pub some : lint_text s.env content ≢ []
  pub written : Appends old new (lint_text s.env content)
  pub noted : Appends notes_old notes_new []
