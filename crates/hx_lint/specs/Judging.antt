-- What the language says of each line: the statement of its words, or the code of what is wrong
-- with them first and the word at which that shows. A line that is refused changes nothing for the
-- lines below it.
use Rattle.std.specs.Prelude.{ℕ, zero, suc, ◌+◌, ◌==◌, ◌||◌, map, Bool, false, not, List, [], ◌∷◌, ◌++◌, codes, length, take, slice_get, Option, None, Some, Result, Ok, Err, unwrap_or, if◌then◌else◌}
use Rattle.hx_ast.specs.declared.statement.Statement.{Statement}
use Rattle.hx_words.specs.Fault.{word_fault_code}
use Rattle.hx_words.specs.Variable.{Env}
use Rattle.hx_words.specs.Words.{words_of}
use Rattle.hx_words.specs.declared.fault.WordFault.{WordFault}
use Rattle.hx_calls.specs.declared.fault.SpellFault.{SpellFault}
use Rattle.hx_calls.specs.declared.fault.SpellFault.TheVariants as spell
use Rattle.hx_spell.specs.declared.probes.TheConstants.{PROBES}
use Rattle.hx_calls.specs.Known.{Known, Reading, nothing_known, reading}
use Rattle.hx_spell.specs.Lines.{line_of}
use Rattle.hx_lint.specs.Spelling.{line_text, word_text}
use Rattle.hx_lint.specs.Texts.{texts_in}
use Rattle.hx_lint.specs.declared.judging.JudgedLine.{JudgedLine}
use Rattle.hx_lint.specs.declared.judging.Judgement.{Judgement}
use Rattle.hx_lint.specs.declared.judging.Judgement.TheVariants.{Taken, Refused}

-- ---- the word at which a fault shows

abbrev pub code_of : SpellFault → ℕ
code_of (spell.Code code) = code
code_of spell.NoMemory = 0

-- the code of what is wrong, and 0 where nothing is
abbrev pub code_read : {A : Type 0} → Result A SpellFault → ℕ
code_read (Ok read) = 0
code_read (Err fault) = code_of fault

-- words, where a line has some, are taken, or refused with another code
abbrev pub reads_otherwise : (number code : ℕ) → Known → Result (List (List ℕ)) WordFault → Bool
reads_otherwise number code known (Ok words) = not (code_read (line_of number words known) == code)
reads_otherwise number code known (Err fault) = false

-- The same of words with a text behind them. What is wrong isn't in these words then, since the
-- words of a line are judged from the left.
abbrev pub turns : (number code : ℕ) → List (List ℕ) → Known → List ℕ → Bool
turns number code words known text =
    reads_otherwise number code known (words_of [] (line_text words ++ text))

-- one of several texts turns them
abbrev pub one_turns : (number code : ℕ) → List (List ℕ) → Known → List (List ℕ) → Bool
one_turns number code words known [] = false
one_turns number code words known (text ∷ texts) =
    turns number code words known text || one_turns number code words known texts

-- one of the texts that tell how many words are right turns them
abbrev pub go_on : (number code : ℕ) → List (List ℕ) → Known → Bool
go_on number code words known =
    one_turns number code words known (map (λ text. text.now) PROBES)

-- how many of the first n words go on, as many as possible
abbrev pub right_words : (number code : ℕ) → List (List ℕ) → Known → ℕ → ℕ
right_words number code words known zero = zero
right_words number code words known (suc n) =
    if go_on number code (take (suc n) words) known then suc n
    else right_words number code words known n

-- a word as it is written, and `-` for none
abbrev pub word_shown : Option (List ℕ) → List ℕ
word_shown None = codes "-"
word_shown (Some word) = word_text word

-- the word at which a fault shows: the one after the longest prefix of the words that goes on; none
-- where that are all of them, and a word is missing
abbrev pub refused_word : (number code : ℕ) → List (List ℕ) → Known → List ℕ
refused_word number code words known =
    word_shown (slice_get words (right_words number code words known (length words)))

-- ---- a line

-- a line whose words can't be read
abbrev pub unread : WordFault → Judgement
unread fault = Refused (unwrap_or (word_fault_code fault) 0) (codes "-")

abbrev pub judged_as : ℕ → List (List ℕ) → Known → Result (Reading Statement) SpellFault
    → Reading Judgement
judged_as number words known (Ok read) = reading (Taken words read.value) read.known
judged_as number words known (Err fault) =
    reading (Refused (code_of fault) (refused_word number (code_of fault) words known)) known

-- the line of this number and these words, after the lines that bring what is known
abbrev pub judged_words : ℕ → List (List ℕ) → Known → Reading Judgement
judged_words number words known = judged_as number words known (line_of number words known)

abbrev pub judged_split : ℕ → Known → Result (List (List ℕ)) WordFault → Reading Judgement
judged_split number known (Ok words) = judged_words number words known
judged_split number known (Err fault) = reading (unread fault) known

-- the line of this number and this text
unfoldable pub judged : Env → ℕ → List ℕ → Known → Reading Judgement
judged env number text known = judged_split number known (words_of env text)

-- ---- all lines

abbrev pub with_line : ℕ → List JudgedLine → Reading Judgement → Reading (List JudgedLine)
with_line number before read =
    reading (before ++ record { number = number; judgement = read.value } ∷ []) read.known

-- the lines of these texts, the first with this number, after those that are read
abbrev pub judged_from : Env → ℕ → List (List ℕ) → Reading (List JudgedLine)
    → Reading (List JudgedLine)
judged_from env number [] before = before
judged_from env number (text ∷ texts) before =
    judged_from env (number + 1) texts
    (with_line number before.value (judged env number text before.known))

-- all lines of a configuration, and what they bring
unfoldable pub all_judged : Env → List ℕ → Reading (List JudgedLine)
all_judged env config = judged_from env 1 (texts_in config) (reading [] nothing_known)

-- ---- what lines bring

abbrev pub known_read : Known → Result (Reading Statement) SpellFault → Known
known_read known (Ok read) = read.known
known_read known (Err fault) = known

abbrev pub known_by : ℕ → Judgement → Known → Known
known_by number (Taken words st) known = known_read known (line_of number words known)
known_by number (Refused code word) known = known

-- what these lines bring, after those that bring what is known
abbrev pub known_after : List JudgedLine → Known → Known
known_after [] known = known
known_after (line ∷ lines) known =
    known_after lines (known_by line.number line.judgement known)
