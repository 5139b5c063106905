-- The lines of a configuration, the statements that they spell, and the first line with a fault
-- (HAProxy configuration manual 2.4, sections 2.1, 2.2, 4, 7.1 and 7.2).
use Rattle.std.specs.Prelude.{◌≡◌, ℕ, ◌+◌, ◌==◌, ◌&&◌, ◌⊎◌, Bool, true, false, List, [], ◌∷◌, ◌++◌, length, map, Option, None, Some, Result, Ok, Err, is_none, unwrap_or, if◌then◌else◌}
use Rattle.std.specs.List.{slice_split, list_all}
use Rattle.std.specs.Option.{option_map_or}
use Rattle.std.specs.Io.BufRead.{strip_last}
use Rattle.hx_ast.specs.Acls.{cond_passes}
use Rattle.hx_ast.specs.declared.Decl.{Decl}
use Rattle.hx_ast.specs.declared.Statement.{Statement}
use Rattle.hx_ast.specs.declared.Statement.TheVariants as statement
use Rattle.hx_ast.specs.declared.Term.{Term}
use Rattle.hx_base.specs.Bytes.{ascii}
use Rattle.hx_match.specs.Patterns.{text_fault}
use Rattle.hx_rules.specs.Building.{is_statement_typed, statement_has_expressions}
use Rattle.hx_calls.specs.Known.{Known, Reading, reading}
use Rattle.hx_spell.specs.Lines.{line_of}
use Rattle.hx_spell.specs.Relation.{SpellLine}
use Rattle.hx_calls.specs.declared.SpellFault.{SpellFault}
use Rattle.hx_calls.specs.declared.SpellFault.TheVariants as spell
use Rattle.hx_words.specs.Fault.{word_fault_code}
use Rattle.hx_words.specs.Variable.{Env}
use Rattle.hx_words.specs.Words.{words_of}
use Rattle.hx_words.specs.declared.WordFault.{WordFault}
pub use Rattle.hx_filling.specs.Refusals.{Refusal, bad_pattern}

-- the lines of a configuration, without the line feeds between them and without the one carriage
-- return that may end each
abbrev pub lines_of : List ℕ → List (List ℕ)
lines_of config = map (strip_last (ascii "\r")) (slice_split (λ b. b == ascii "\n") config)

-- the code of a fault of words
abbrev pub fault_code : WordFault → ℕ
fault_code fault = unwrap_or (word_fault_code fault) 0

-- the code of a fault for which words spell no statement
abbrev pub spell_code : SpellFault → ℕ
spell_code (spell.Code code) = code
spell_code spell.NoMemory = 0

-- the code of a value that has no cast to the type that a converter or an ACL takes
abbrev pub bad_type : ℕ
bad_type = 11

-- ---- patterns

-- whether the inline patterns of an ACL are patterns of its method
abbrev pub has_patterns : Decl → Bool
has_patterns decl = list_all (λ word. is_none (text_fault decl.by decl.ci word)) decl.words

-- the same of the ACLs that stand in a condition itself, if there is one
abbrev pub when_has_patterns : Option (List (List Term)) → Bool
when_has_patterns cond = option_map_or (cond_passes has_patterns) cond true

-- whether the inline patterns of a statement's ACLs are patterns of their methods
abbrev pub statement_has_patterns : Statement → Bool
statement_has_patterns (statement.Acl line name decl) = has_patterns decl
statement_has_patterns (statement.Rule rule) = when_has_patterns rule.cond
statement_has_patterns (statement.Redirect rule) = when_has_patterns rule.cond
statement_has_patterns (statement.Backend line format unless cond) = when_has_patterns cond
statement_has_patterns _ = true

-- whether all regular expressions and inline patterns of a statement are some
abbrev pub is_statement_readable : Statement → Bool
is_statement_readable item = statement_has_expressions item && statement_has_patterns item

-- ---- the relation between lines and their statements

-- the words of the line with this number spell a statement
pub record SpellsStatement (env : Env) (number : ℕ) (line : List ℕ) (before : Known)
    (read : Reading Statement) : Type 0 where
  pub words : List (List ℕ)
  pub cut : words_of env line ≡ Ok words
  pub spelled : SpellLine number before words read

-- the same, its types fit, and its regular expressions and patterns are some
abbrev pub GivesStatement : Env → ℕ → List ℕ → Known → Reading Statement → Type 0
GivesStatement env number line before read =
    (words : List (List ℕ)) × (words_of env line ≡ Ok words) × SpellLine number before words read
    × (is_statement_typed read.value ≡ true) × (is_statement_readable read.value ≡ true)

-- a line's words have a fault with this code
pub record HasWordFault (env : Env) (line : List ℕ) (code : ℕ) : Type 0 where
  pub fault : WordFault
  pub cut : words_of env line ≡ Err fault
  pub coded : code ≡ fault_code fault

-- a line's words spell no statement, for a fault with this code
pub record HasStatementFault (env : Env) (number : ℕ) (line : List ℕ) (before : Known) (code : ℕ)
    : Type 0 where
  pub words : List (List ℕ)
  pub cut : words_of env line ≡ Ok words
  pub fault : SpellFault
  pub unspelled : line_of number words before ≡ Err fault
  pub coded : code ≡ spell_code fault

-- a line spells a statement whose types don't fit
pub record HasTypeFault (env : Env) (number : ℕ) (line : List ℕ) (before : Known) (code : ℕ)
    : Type 0 where
  pub read : Reading Statement
  pub spelled : SpellsStatement env number line before read
  pub untyped : is_statement_typed read.value ≡ false
  pub coded : code ≡ bad_type

-- a line spells a statement with a regular expression or a pattern that is none
pub record HasPatternFault (env : Env) (number : ℕ) (line : List ℕ) (before : Known) (code : ℕ)
    : Type 0 where
  pub read : Reading Statement
  pub spelled : SpellsStatement env number line before read
  pub typed : is_statement_typed read.value ≡ true
  pub unreadable : is_statement_readable read.value ≡ false
  pub coded : code ≡ bad_pattern

-- a line is refused with this code, after what is known before it
abbrev pub IsRefused : Env → ℕ → List ℕ → Known → ℕ → Type 0
IsRefused env number line before code =
    HasWordFault env line code ⊎ HasStatementFault env number line before code
    ⊎ HasTypeFault env number line before code ⊎ HasPatternFault env number line before code

-- lines, the first of which has this number, give these statements, one each
abbrev pub GiveStatements : Env → ℕ → List (List ℕ) → Known → Reading (List Statement) → Type 0
GiveStatements env number [] before read = read ≡ reading [] before
GiveStatements env number (line ∷ lines) before read =
    (first : Reading Statement) × (others : Reading (List Statement))
    × (read ≡ reading (first.value ∷ others.value) others.known)
    × GivesStatement env number line before first
    × GiveStatements env (number + 1) lines first.known others

-- the first line that is refused, where the first of all has this number: the lines before it give
-- statements
pub record IsFirstRefused (env : Env) (first : ℕ) (lines : List (List ℕ)) (before : Known)
    (refusal : Refusal) : Type 0 where
  pub lines_before : List (List ℕ)
  pub line : List ℕ
  pub lines_after : List (List ℕ)
  pub lines_are : lines ≡ lines_before ++ line ∷ lines_after
  pub read : Reading (List Statement)
  pub accepted : GiveStatements env first lines_before before read
  pub number : refusal.line ≡ first + length lines_before
  pub refused : IsRefused env refusal.line line read.known refusal.code

-- lines give their statements, or are refused at the first line that is refused
abbrev pub LinesGive : Env → ℕ → List (List ℕ) → Known
    → Result (Reading (List Statement)) Refusal → Type 0
LinesGive env first lines before (Ok read) = GiveStatements env first lines before read
LinesGive env first lines before (Err refusal) = IsFirstRefused env first lines before refusal

-- ---- the same as a function, for proofs

-- a statement, or the code of what is wrong with its types or its patterns; types come first
abbrev pub statement_judged : Reading Statement → Result (Reading Statement) ℕ
statement_judged read =
    if is_statement_typed read.value then
    (if is_statement_readable read.value then Ok read else Err bad_pattern)
    else Err bad_type

abbrev pub judged_or_code : Result (Reading Statement) SpellFault → Result (Reading Statement) ℕ
judged_or_code (Ok read) = statement_judged read
judged_or_code (Err fault) = Err (spell_code fault)

abbrev pub statement_of_words :
    ℕ → Result (List (List ℕ)) WordFault → Known → Result (Reading Statement) ℕ
statement_of_words number (Ok words) before = judged_or_code (line_of number words before)
statement_of_words number (Err fault) before = Err (fault_code fault)

-- what the line with this number says; a fault of its words comes before the statement that they
-- spell
unfoldable pub line_statement : Env → ℕ → List ℕ → Known → Result (Reading Statement) ℕ
line_statement env number line before =
    statement_of_words number (words_of env line) before

abbrev pub before_statements : Statement → Result (Reading (List Statement)) Refusal
    → Result (Reading (List Statement)) Refusal
before_statements first (Ok others) =
    Ok (reading (first ∷ others.value) others.known)
before_statements first (Err refusal) = Err refusal

-- what a line with this number says, and then what the lines after it say: the first fault is the
-- answer
abbrev pub then_statements : Result (Reading Statement) ℕ → ℕ
    → (Known → Result (Reading (List Statement)) Refusal)
    → Result (Reading (List Statement)) Refusal
then_statements (Err code) number after = Err (record { line = number; code = code })
then_statements (Ok first) number after = before_statements first.value (after first.known)

-- the statements of lines, the first of which has this number
abbrev pub statements_from : Env → ℕ → List (List ℕ) → Known
    → Result (Reading (List Statement)) Refusal
statements_from env number [] before = Ok (reading [] before)
statements_from env number (line ∷ lines) before =
    then_statements (line_statement env number line before) number
    (λ known. statements_from env (number + 1) lines known)

-- ---- what a loop over lines has left

-- the lines of the text that is left, where one is
abbrev pub lines_left : Option (List ℕ) → List (List ℕ)
lines_left None = []
lines_left (Some text) = lines_of text

-- the bytes of the text that is left, and the line that begins there
abbrev pub size_left : Option (List ℕ) → ℕ
size_left None = 0
size_left (Some text) = length text + 1
