-- What the code reads in a line, in the words of the definitions.
use Rattle.std.specs.Prelude.{◌≡◌, ℕ, List, [], ◌∷◌, ◌==◌, Option, Some, None, Result, Ok, Err}
use Rattle.std.specs.List.{slice_split}
use Rattle.hx_base.specs.Bytes.{ascii}
use Rattle.hx_record.specs.Line.{LineMeaning, Nothing, Says, Announces}
use Rattle.hx_record.specs.declared.refusal.RecordRefusal.{RecordRefusal}
use Rattle.hx_record.specs.declared.line.Line.{Line}
use Rattle.hx_record.specs.declared.line.Line.TheVariants as lines

-- what a line says that was read
abbrev pub meaning_read : Line → LineMeaning
meaning_read lines.Nothing = Nothing
meaning_read (lines.Event event) = Says event
meaning_read (lines.Request id len) = Announces id len

-- the same, where the line is no line of a record
abbrev pub result_meaning : Result Line RecordRefusal → Result LineMeaning RecordRefusal
result_meaning (Ok line) = Ok (meaning_read line)
result_meaning (Err refusal) = Err refusal

-- what a line says that announces a request, of this connection and of so many bytes
abbrev pub request_meaning : Result (ℕ × ℕ) RecordRefusal → Result LineMeaning RecordRefusal
request_meaning (Ok (id, len)) = Ok (Announces id len)
request_meaning (Err refusal) = Err refusal

-- a line that says an event
abbrev pub SaysEvent : Result LineMeaning RecordRefusal → Type 0
SaysEvent (Ok (Says event)) = Unit {0}
SaysEvent _ = ⊥

-- the words of a line
abbrev pub line_words : List ℕ → List (List ℕ)
line_words line = slice_split (λ b. b == ascii " ") line

-- the words of what follows a space, and none where no space is there
abbrev pub words_after : Option (List ℕ) → List (List ℕ)
words_after None = []
words_after (Some rest) = line_words rest

-- there is a word
abbrev pub IsSomeWords : List (List ℕ) → Type 0
IsSomeWords words = (first : List ℕ) × (rest : List (List ℕ)) × (words ≡ first ∷ rest)
