-- The codes of what words are refused for, as a refused configuration is reported by them.
use Rattle.std.specs.Prelude.{◌≡◌, ◌≢◌, ℕ, ◌==◌, Bool, List, [], ◌∷◌, IsTrue, Result, Ok, Err}
use Rattle.std.specs.List.{list_any}
use Rattle.hx_words.specs.declared.ArgFault.{ArgFault}
use Rattle.hx_words.specs.declared.ArgFault.TheVariants.{Unclosed, AfterClose, BadEscape, OpenQuote, NoMemory}
use Rattle.hx_calls.specs.declared.fault.SpellFault.{SpellFault}
use Rattle.hx_calls.specs.declared.fault.SpellFault.TheVariants as spell

-- a statement, a fetch, a converter or a flag that isn't supported
abbrev pub unsupported : SpellFault
unsupported = spell.Code 9

-- a number of arguments or an argument that isn't allowed
abbrev pub bad_argument : SpellFault
bad_argument = spell.Code 10

-- the name of a header or of a variable that isn't of its form
abbrev pub bad_name : SpellFault
bad_name = spell.Code 12

-- a condition that names an ACL which is neither declared before nor predefined
abbrev pub unknown_acl : SpellFault
unknown_acl = spell.Code 13

-- words that are no condition
abbrev pub bad_condition : SpellFault
bad_condition = spell.Code 14

-- a `%` in a format that neither another `%` nor `[` follows
abbrev pub bad_format : SpellFault
bad_format = spell.Code 15

-- a file that is used with one column and with two
abbrev pub file_kind : SpellFault
file_kind = spell.Code 17

-- a statement that stands where it may not
abbrev pub misplaced : SpellFault
misplaced = spell.Code 19

-- one reference more than a configuration may have
abbrev pub too_many_references : SpellFault
too_many_references = spell.Code 23

-- the codes of what words on a line are refused for
abbrev pub line_codes : List ℕ
line_codes = 5 ∷ 6 ∷ 7 ∷ 8 ∷ 9 ∷ 10 ∷ 12 ∷ 13 ∷ 14 ∷ 15 ∷ 17 ∷ 19 ∷ 23 ∷ []

abbrev pub is_line_code : ℕ → Bool
is_line_code code = list_any (λ other. other == code) line_codes

-- a fault of words is one of these, and never a lack of memory
abbrev pub HasLineCode : SpellFault → Type 0
HasLineCode (spell.Code code) = IsTrue (is_line_code code)
HasLineCode spell.NoMemory = ⊥

-- what is wrong with the form of a call
abbrev pub form_fault : ArgFault → SpellFault
form_fault Unclosed = spell.Code 5
form_fault AfterClose = spell.Code 6
form_fault BadEscape = spell.Code 7
form_fault OpenQuote = spell.Code 8
form_fault NoMemory = spell.NoMemory

-- A call answers what is expected: the same value, or the same code. Where memory runs out, nothing
-- is said.
abbrev pub AnswersAs : {A : Type 0} → Result A SpellFault → Result A SpellFault → Type 0
AnswersAs (Ok x) expected = expected ≡ Ok x
AnswersAs (Err fault) expected = fault ≢ spell.NoMemory → expected ≡ Err fault

-- The same of a call whose value is a part of what is expected, or another form of it.
abbrev pub AnswersWith : {A B : Type 0} → (B → A) → Result B SpellFault → Result A SpellFault
    → Type 0
AnswersWith form (Ok x) expected = expected ≡ Ok (form x)
AnswersWith form (Err fault) expected = fault ≢ spell.NoMemory → expected ≡ Err fault
