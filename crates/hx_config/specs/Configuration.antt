-- The configuration of one frontend out of a whole file, and what is said of it on standard error.
use Rattle.std.specs.Prelude.{ℕ, Bool, true, false, not, ◌&&◌, ◌||◌, List, [], ◌∷◌, ◌++◌, codes, nat_lt, length, ◌==◌, Option, None, Some, option_map, if◌then◌else◌}
use Rattle.std.specs.Fmt.{decimal}
use Rattle.std.specs.List.{list_any}
use Rattle.std.specs.Str.{bytes_eq}
use Rattle.hx_base.specs.Bytes.{ascii}
use Rattle.hx_config.specs.Said.{Words}
use Rattle.hx_config.specs.Fates.{Selection, Fate, Elsewhere, Own, LeftOut, Otherwise, Below, fate_of, first_rule_in, holds_one}
use Rattle.hx_config.specs.Conditions.{Tls}
use Rattle.hx_config.specs.Lines.{Line}
use Rattle.hx_config.specs.Proxies.{has_backend, sections_of}
use Rattle.hx_config.specs.Refusals.{refusal_of}
use Rattle.hx_lint.specs.Spelling.{line_text}
use Rattle.hx_config.specs.Titles.{word_at}

-- ---- the text

-- what stands at the number of a line
abbrev pub text_at : Line → Fate → List ℕ
text_at line Own = line.text
text_at line (Otherwise words reason) = line_text words
text_at line _ = []

-- what stands below the last line of the file for a line
abbrev pub text_below : Fate → List ℕ
text_below (Below words reason) = line_text words ++ codes "\n"
text_below _ = []

-- every line of the file at its number
abbrev pub texts_here : Selection → List Line → List ℕ
texts_here chosen [] = []
texts_here chosen (line ∷ below) =
    (text_at line (fate_of chosen below line) ++ codes "\n") ++ texts_here chosen below

-- and what stands below the last
abbrev pub texts_below : Selection → List Line → List ℕ
texts_below chosen [] = []
texts_below chosen (line ∷ below) =
    text_below (fate_of chosen below line) ++ texts_below chosen below

abbrev pub configuration_text : Selection → List Line → List ℕ
configuration_text chosen lines = texts_here chosen lines ++ texts_below chosen lines

-- ---- what is said

abbrev pub note : (file : List ℕ) → Line → List ℕ → List ℕ
note file line text =
    codes "hxconfig: " ++ file ++ codes ":" ++ decimal line.number ++ codes ": " ++ text
    ++ codes "\n"

-- what was done with a line, and why; nothing of one that is written as it is
abbrev pub fate_note : List ℕ → Line → Fate → List ℕ
fate_note file line Elsewhere = []
fate_note file line Own = []
fate_note file line (LeftOut reason) = note file line (codes "left out: " ++ reason)
fate_note file line (Otherwise words reason) =
    note file line (codes "written as: " ++ line_text words ++ codes ": " ++ reason)
fate_note file line (Below words reason) =
    note file line
    (codes "written last as: " ++ line_text words ++ codes ": " ++ reason)

abbrev pub refusal_note : List ℕ → Line → Option (List ℕ) → List ℕ
refusal_note file line None = []
refusal_note file line (Some reason) = note file line (codes "hxeval refuses it: " ++ reason)

-- why hxeval refuses what stands at the number of a line, where that is known
abbrev pub kept_note : List ℕ → Line → Fate → List ℕ
kept_note file line Own = refusal_note file line (refusal_of line.words)
kept_note file line (Otherwise words reason) = refusal_note file line (refusal_of words)
kept_note file line _ = []

abbrev pub has_percent : List ℕ → Bool
has_percent text = list_any (λ b. b == ascii "%") text

-- the backend that a line names, where it names one by no format
abbrev pub backend_named : Words → Option (List ℕ)
backend_named words =
    if (bytes_eq (word_at 0 words) (codes "use_backend")
    || bytes_eq (word_at 0 words) (codes "default_backend"))
    && (nat_lt 1 (length words) && not (has_percent (word_at 1 words)))
    then Some (word_at 1 words) else None

abbrev pub unknown_note : List ℕ → List Line → Line → Option (List ℕ) → List ℕ
unknown_note file lines line None = []
unknown_note file lines line (Some name) =
    if has_backend name lines then []
    else note file line (codes "warning: the file has no backend " ++ name)

-- that the file has no backend of the name that a line gives which is written
abbrev pub backend_note : List ℕ → List Line → Line → Fate → List ℕ
backend_note file lines line Own = unknown_note file lines line (backend_named line.words)
backend_note file lines line _ = []

-- the notes on a line
abbrev pub notes_at : List ℕ → (lines : List Line) → Line → Fate → List ℕ
notes_at file lines line fate =
    fate_note file line fate ++ (kept_note file line fate ++ backend_note file lines line fate)

-- the notes on these of the lines, in their order
abbrev pub notes_from : List ℕ → Selection → (lines : List Line) → List Line → List ℕ
notes_from file chosen lines [] = []
notes_from file chosen lines (line ∷ below) =
    notes_at file lines line (fate_of chosen below line)
    ++ notes_from file chosen lines below

abbrev pub notes_text : List ℕ → Selection → List Line → List ℕ
notes_text file chosen lines = notes_from file chosen lines lines

-- ---- what is asked for

-- the proxy of this name, where the file has one
abbrev pub selection_of : List ℕ → Tls → List Line → Option Selection
selection_of name tls lines = option_map (λ sections. record {
  sections = sections;
  has_default = holds_one sections (codes "default_backend") [] lines;
  monitor_fails = holds_one sections (codes "monitor") (codes "fail") lines;
  first_rule = first_rule_in sections false lines;
  first_change = first_rule_in sections true lines;
  tls = tls;
  lines = lines;
}) (sections_of name lines)
