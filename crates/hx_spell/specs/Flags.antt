-- The flags of an ACL, between its criterion and its inline patterns (HAProxy configuration manual
-- 2.4, section 7.1).
use Rattle.std.specs.Prelude.{ℕ, ◌-◌, ◌^◌, ◌==◌, ◌&&◌, Bool, true, false, not, List, [], ◌∷◌, ◌++◌, map, codes, slice_index, Option, Some, None, is_none, Result, Ok, Err, if◌then◌else◌}
use Rattle.std.specs.Option.{ok_or, option_map_or}
use Rattle.std.specs.Char.{is_ascii_digit}
use Rattle.hx_base.specs.Bytes.{ascii}
use Rattle.hx_text.specs.declared.By.{By}
use Rattle.hx_text.specs.Methods.{method_name, methods}
use Rattle.hx_text.specs.Network.{width_of}
use Rattle.hx_ast.specs.Acls.{takes_patterns}
use Rattle.hx_calls.specs.declared.fault.SpellFault.{SpellFault}
use Rattle.hx_calls.specs.Codes.{bad_argument, unsupported}
use Rattle.hx_base.specs.Results.{◌>>=◌}
use Rattle.hx_calls.specs.Known.{Known, Reading, with_acl, with_named_file, reading}
use Rattle.hx_calls.specs.Tables.{Table, entry_at}

-- the reference of a file that an ACL searches, and whether it ignores the case of letters there
pub record Searched : Type 0 where
  pub table : ℕ
  pub ci : Bool

-- What flags say: whether what follows ignores the case of letters, whether the files that follow
-- have two columns, the match method, the number of the inline patterns, and the files.
pub record Flags : Type 0 where
  pub ci : Bool
  pub two : Bool
  pub by : Option By
  pub given : Option ℕ
  pub files : List Searched

-- before the first flag
abbrev pub no_flags : Option By → Flags
no_flags by = record { ci = false; two = false; by = by; given = None; files = [] }

-- a flag
pub data Flag : Type 0 where
  IgnoreCase : Flag
  TwoColumns : Flag
  Numeric : Flag
  File : Flag
  Method : Flag
  Number : Flag
  End : Flag

-- the word of a flag
abbrev pub flag_text : Flag → List ℕ
flag_text IgnoreCase = codes "-i"
flag_text TwoColumns = codes "-M"
flag_text Numeric = codes "-n"
flag_text File = codes "-f"
flag_text Method = codes "-m"
flag_text Number = codes "-u"
flag_text End = codes "--"

unfoldable pub flag_table : Table Flag
flag_table = map (λ flag. (flag_text flag, flag))
    (IgnoreCase ∷ TwoColumns ∷ Numeric ∷ File ∷ Method ∷ Number ∷ End ∷ [])

-- the match methods, as `-m` names them
unfoldable pub method_table : Table By
method_table = map (λ by. (method_name by, by)) methods

-- whether a word has the form of a flag: a hyphen, and no digit after it
abbrev pub begins_as_flag : List ℕ → Bool
begins_as_flag word = slice_index word 0 == ascii "-" && not (is_ascii_digit (slice_index word 1))

-- ---- one flag

-- whether a flag that takes an argument may stand here: a method or a number once, and a file where
-- the method isn't one without patterns
abbrev pub may_stand : Flag → Flags → Bool
may_stand Method flags = is_none flags.by
may_stand Number flags = is_none flags.given
may_stand File flags = option_map_or takes_patterns flags.by true
may_stand flag flags = true

-- what the argument of a flag says
abbrev pub flag_argument : ℕ → Flag → List ℕ → Flags → Known → Result (Reading Flags) SpellFault
flag_argument line File name flags known = do
  file ← with_named_file line name flags.two known
  let searched : Searched = record { table = file.value; ci = flags.ci }
  let more = record flags { files = flags.files ++ searched ∷ [] }
  Ok (reading more (with_acl file.value file.known))
flag_argument line Method name flags known =
    ok_or (entry_at method_table name) unsupported
    >>= (λ by. Ok (reading (record flags { by = Some by }) known))
flag_argument line Number text flags known =
    ok_or (width_of (2 ^ 32 - 1) text) bad_argument
    >>= (λ n. Ok (reading (record flags { given = Some n }) known))
flag_argument line flag text flags known = Ok (reading flags known)

-- ---- flags in order

-- what the flags say, and the words after them
pub record AfterFlags : Type 0 where
  pub flags : Flags
  pub words : List (List ℕ)

abbrev pub flags_end : Flags → List (List ℕ) → Known → Result (Reading AfterFlags) SpellFault
flags_end flags words known = Ok (reading (record { flags = flags; words = words }) known)

-- what a word in the place of a flag says, with the words after it: the flags end, or go on,
-- perhaps with the argument of a flag
abbrev pub flag_word :
    (Option Flag → Flags → Result (Reading AfterFlags) SpellFault) → Option Flag → List ℕ
    → List (List ℕ) → Flags → Known → Result (Reading AfterFlags) SpellFault
flag_word further (Some IgnoreCase) word words flags known =
    further None (record flags { ci = true })
flag_word further (Some TwoColumns) word words flags known =
    further None (record flags { two = true })
flag_word further (Some Numeric) word words flags known = further None flags
flag_word further (Some End) word words flags known = flags_end flags words known
flag_word further (Some flag) word words flags known =
    if may_stand flag flags then further (Some flag) flags else Err bad_argument
flag_word further None word words flags known =
    if begins_as_flag word then Err unsupported else flags_end flags (word ∷ words) known

-- The flags that words begin with, after those so far; with a flag whose argument is the next word,
-- if there is one.
abbrev pub flags_from : ℕ → Option Flag → List (List ℕ) → Flags → Known
    → Result (Reading AfterFlags) SpellFault
flags_from line None [] flags known = flags_end flags [] known
flags_from line (Some flag) [] flags known = Err bad_argument
flags_from line None (word ∷ words) flags known =
    flag_word (λ awaits after. flags_from line awaits words after known) (entry_at flag_table word)
    word words flags known
flags_from line (Some flag) (word ∷ words) flags known =
    flag_argument line flag word flags known
    >>= (λ r. flags_from line None words r.value r.known)
