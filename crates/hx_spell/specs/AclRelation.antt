-- ACLs, and the words that spell them: a criterion, flags and patterns (HAProxy configuration
-- manual 2.4, section 7.1).
use Rattle.std.specs.Prelude.{◌≡◌, ◌⊎◌, ℕ, Bool, true, false, List, [], ◌∷◌, ◌++◌, codes, Option, None, Some, ⊤, ◌-◌, ◌^◌}
use Rattle.hx_text.specs.declared.By.{By}
use Rattle.hx_text.specs.declared.By.TheVariants as method
use Rattle.hx_text.specs.declared.Kind.{Kind}
use Rattle.hx_text.specs.declared.Kind.TheVariants as kind
use Rattle.hx_text.specs.Network.{width_of}
use Rattle.hx_ast.specs.declared.Decl.{Decl}
use Rattle.hx_ast.specs.declared.Expr.{Expr}
use Rattle.hx_ast.specs.Acls.{takes_patterns}
use Rattle.hx_ast.specs.Types.{expr_kind}
use Rattle.hx_calls.specs.Criteria.{Criterion}
use Rattle.hx_spell.specs.Declarations.{Way, decl_reading, file_heads, ignores_case, way_by, with_last_head, words_head}
use Rattle.hx_calls.specs.ExpressionRelation.{HasPosition, IsNewReference, WritesCriterion}
use Rattle.hx_spell.specs.Flags.{Flag, Flags, Searched, begins_as_flag, flag_text, may_stand, method_table, no_flags}
use Rattle.hx_spell.specs.Flags.Flag.{IgnoreCase, TwoColumns, Numeric, File, Method, Number}
use Rattle.hx_calls.specs.Known.{Known, Reading, reading, reference_form, with_acl, with_named}
use Rattle.hx_spell.specs.PatternRelation.{SpellKeys}
use Rattle.hx_calls.specs.Tables.{entry_at}

-- ---- flags

-- what a flag without an argument changes; none for the others
abbrev pub flag_alone : Flag → Flags → Option Flags
flag_alone IgnoreCase flags = Some (record flags { ci = true })
flag_alone TwoColumns flags = Some (record flags { two = true })
flag_alone Numeric flags = Some flags
flag_alone flag flags = None

-- whether a flag is followed by an argument
abbrev pub takes_argument : Flag → Bool
takes_argument File = true
takes_argument Method = true
takes_argument Number = true
takes_argument flag = false

-- one file more is searched
abbrev pub with_searched : Flags → ℕ → Flags
with_searched flags table =
    let searched : Searched = record { table = table; ci = flags.ci } in
    record flags { files = flags.files ++ searched ∷ [] }

-- a text is the argument of a flag, and says this
abbrev pub WritesArgument : ℕ → Flag → List ℕ → Flags → Known → Reading Flags → Type 0
WritesArgument line File name flags known changed =
    (file : Reading ℕ) × HasPosition line name flags.two known file
    × (changed ≡ reading (with_searched flags file.value) (with_acl file.value
    (with_named file.value file.known)))
WritesArgument line Method name flags known changed =
    (by : By) × (entry_at method_table name ≡ Some by)
    × (changed ≡ reading (record flags { by = Some by }) known)
WritesArgument line Number text flags known changed =
    (n : ℕ) × (width_of (2 ^ 32 - 1) text ≡ Some n)
    × (changed ≡ reading (record flags { given = Some n }) known)
WritesArgument line flag text flags known changed = ⊥

-- words are flags, one after the other, each with its argument
pub data SpellFlags (line : ℕ) : Reading Flags → List (List ℕ) → Reading Flags → Type 0 where
  NoFlags : (flags : Reading Flags) → SpellFlags line flags [] flags
  FlagAlone : (flag : Flag) (before after : Reading Flags) (changed : Flags) (words : List (List ℕ))
      → flag_alone flag before.value ≡ Some changed
      → SpellFlags line (reading changed before.known) words after
      → SpellFlags line before (flag_text flag ∷ words) after
  FlagWithArgument : (flag : Flag) (text : List ℕ) (before changed after : Reading Flags)
      (words : List (List ℕ))
      → takes_argument flag ≡ true → may_stand flag before.value ≡ true
      → WritesArgument line flag text before.value before.known changed
      → SpellFlags line changed words after
      → SpellFlags line before (flag_text flag ∷ text ∷ words) after

-- no word is left, or one that isn't a flag
abbrev pub BeginWithNoFlag : List (List ℕ) → Type 0
BeginWithNoFlag [] = ⊤
BeginWithNoFlag (word ∷ words) = begins_as_flag word ≡ false

-- the words after the flags are patterns: `--` says so, or the first of them does
abbrev pub EndFlags : List (List ℕ) → List (List ℕ) → Type 0
EndFlags words patterns =
    (words ≡ codes "--" ∷ patterns) ⊎ ((words ≡ patterns) × BeginWithNoFlag patterns)

-- ---- how values are searched

-- How values of a type are searched where no method is said. There is no such way for binary
-- values, and for those whose type isn't known.
pub data IsOwnWay : Kind → Way → Type 0 where
  Booleans : IsOwnWay kind.Bool (way_by method.Bool false)
  Integers : IsOwnWay kind.Int (way_by method.Int false)
  Addresses : IsOwnWay kind.Ip (way_by method.Ip false)
  Strings : IsOwnWay kind.Str (way_by method.Str false)
  MethodNames : IsOwnWay kind.Method (way_by method.Str true)

-- how the values of an expression are searched: by the method that is said, or by their type
abbrev pub IsSearched : Expr → Option By → Way → Type 0
IsSearched expr (Some by) way = way ≡ way_by by false
IsSearched expr None way = IsOwnWay (expr_kind expr) way

-- ---- what is searched

-- Files are searched, and after them the inline patterns, where there are any: they are a new
-- reference, and a number that is given is theirs.
pub data HaveHeads (line : ℕ) (way : Way) (flags : Flags) (files : Reading (List ℕ))
    : List (List ℕ) → Reading (List ℕ) → Type 0 where
  FilesAlone : flags.given ≡ None → HaveHeads line way flags files [] files
  FilesAndPatterns : (key : List ℕ) (keys : List (List ℕ)) (place : Reading ℕ)
      → IsNewReference (reference_form None flags.given false line (key ∷ keys)) files.known place
      → HaveHeads line way flags files (key ∷ keys)
      (with_last_head files (words_head way flags.ci place))

-- the words after the flags are the patterns of an ACL that is searched in this way
pub data SpellPatterns (line : ℕ) (expr : Expr) (way : Way) (flags : Reading Flags)
    : List (List ℕ) → Reading Decl → Type 0 where
  NoPatterns : takes_patterns way.by ≡ false → flags.value.files ≡ [] → flags.value.given ≡ None
      → SpellPatterns line expr way flags []
      (decl_reading expr way false [] (reading [] flags.known))
  Patterns : (words keys : List (List ℕ)) (heads : Reading (List ℕ))
      → takes_patterns way.by ≡ true → SpellKeys way.by words keys
      → HaveHeads line way flags.value (file_heads way flags.value.files flags.known) keys heads
      → SpellPatterns line expr way flags words
      (decl_reading expr way (ignores_case way flags.value.ci) keys heads)

-- ---- ACLs

-- a text and words spell an ACL: the text its criterion, and the words its flags and patterns
pub record SpellDecl (line : ℕ) (before : Known) (text : List ℕ) (words : List (List ℕ))
    (read : Reading Decl) : Type 0 where
  pub criterion : Reading Criterion
  pub written : WritesCriterion line before text criterion
  pub flag_words : List (List ℕ)
  pub others : List (List ℕ)
  pub patterns : List (List ℕ)
  pub words_are : words ≡ flag_words ++ others
  pub flags : Reading Flags
  pub spelled : SpellFlags line
      (reading (no_flags criterion.value.by) criterion.known) flag_words flags
  pub end : EndFlags others patterns
  pub way : Way
  pub searched : IsSearched criterion.value.expr flags.value.by way
  pub with_patterns : SpellPatterns line criterion.value.expr way flags patterns read
