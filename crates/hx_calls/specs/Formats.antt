-- Formats: texts in which values of a request are filled in (HAProxy configuration manual 2.4,
-- section 8.2.4).
use Rattle.std.specs.Prelude.{ℕ, zero, suc, ◌==◌, List, [], ◌∷◌, length, Some, Result, Ok, Err, if◌then◌else◌}
use Rattle.hx_base.specs.Bytes.{ascii}
use Rattle.hx_words.specs.Calls.{Step, steps_of}
use Rattle.hx_words.specs.Calls.Step.{Last, More, Faulty}
use Rattle.hx_ast.specs.declared.Expr.{Expr}
use Rattle.hx_ast.specs.declared.Part.{Part}
use Rattle.hx_ast.specs.declared.Part.TheVariants.{Text, Value}
use Rattle.hx_calls.specs.declared.fault.SpellFault.{SpellFault}
use Rattle.hx_base.specs.Results.{◌>>=◌}
use Rattle.hx_calls.specs.Codes.{bad_format}
use Rattle.hx_calls.specs.Criteria.{expr_of}
use Rattle.hx_calls.specs.Known.{Known, Reading, reading}

-- the parts with one byte more before them; bytes beside one another are one part
abbrev pub byte_before : ℕ → List Part → List Part
byte_before b [] = Text (b ∷ []) ∷ []
byte_before b (Text bytes ∷ parts) = Text (b ∷ bytes) ∷ parts
byte_before b (Value expr ∷ parts) = Text (b ∷ []) ∷ Value expr ∷ parts

abbrev pub with_byte : ℕ → Reading (List Part) → Reading (List Part)
with_byte b others = reading (byte_before b others.value) others.known

abbrev pub with_value : Expr → Reading (List Part) → Reading (List Part)
with_value expr others = reading (Value expr ∷ others.value) others.known

-- what follows the calls of these steps
abbrev pub rest_after : List Step → List ℕ
rest_after [] = []
rest_after (Last call rest ∷ steps) = rest
rest_after (More call rest ∷ steps) = rest_after steps
rest_after (Faulty name fault ∷ steps) = []

-- a format that is read on from a text
abbrev pub FormatReader : Type 0
FormatReader = List ℕ → Known → Result (Reading (List Part)) SpellFault

-- an expression up to `]`, which is the first outside parentheses, and what follows that
abbrev pub value_part : FormatReader → ℕ → List ℕ → Known → Result (Reading (List Part)) SpellFault
value_part next line text known = do
  expr ← expr_of (Some (ascii "]")) line text known
  others ← next (rest_after (steps_of (Some (ascii "]")) text)) expr.known
  Ok (with_value expr.value others)

-- what follows a `%`: another, which stands for one, or an expression in brackets
abbrev pub after_percent : FormatReader → ℕ → List ℕ → Known
    → Result (Reading (List Part)) SpellFault
after_percent next line [] known = Err bad_format
after_percent next line (b ∷ text) known =
    if b == ascii "%" then next text known >>= (λ others. Ok (with_byte (ascii "%") others))
    else if b == ascii "[" then value_part next line text known
    else Err bad_format

-- the parts of a text of at most so many bytes
abbrev pub format_within : ℕ → ℕ → FormatReader
format_within zero line text known = Ok (reading [] known)
format_within (suc n) line [] known = Ok (reading [] known)
format_within (suc n) line (b ∷ text) known =
    if b == ascii "%" then after_percent (format_within n line) line text known
    else format_within n line text known >>= (λ others. Ok (with_byte b others))

-- the format that a word on this line writes, or the code of its first fault
unfoldable pub format_of : ℕ → FormatReader
format_of line text known = format_within (length text) line text known
