-- An ACL: a criterion, flags and inline patterns (HAProxy configuration manual 2.4, section 7.1).
use Rattle.std.specs.Prelude.{ℕ, ◌==◌, ◌&&◌, ◌||◌, Bool, true, false, List, [], ◌∷◌, ◌++◌, length, Option, None, is_none, is_some, Result, Ok, Err, if◌then◌else◌}
use Rattle.std.specs.Option.{option_map_or}
use Rattle.hx_text.specs.declared.By.{By}
use Rattle.hx_text.specs.declared.By.TheVariants as method
use Rattle.hx_text.specs.declared.Kind.{Kind}
use Rattle.hx_text.specs.declared.Kind.TheVariants as kind
use Rattle.hx_ast.specs.declared.Decl.{Decl}
use Rattle.hx_ast.specs.declared.Expr.{Expr}
use Rattle.hx_ast.specs.Acls.{compares_texts, takes_patterns}
use Rattle.hx_ast.specs.Types.{expr_kind}
use Rattle.hx_calls.specs.declared.fault.SpellFault.{SpellFault}
use Rattle.hx_calls.specs.Codes.{bad_argument}
use Rattle.hx_base.specs.Results.{◌>>=◌}
use Rattle.hx_calls.specs.Criteria.{criterion_of}
use Rattle.hx_spell.specs.Flags.{AfterFlags, Flags, Searched, flags_from, no_flags}
use Rattle.hx_calls.specs.Known.{Known, Reading, reference_form, with_acl, with_head, with_reference, reading}
use Rattle.hx_spell.specs.Patterns.{keys_of}

-- a match method, and whether it ignores the case of letters in all that it compares
pub record Way : Type 0 where
  pub by : By
  pub folds : Bool

abbrev pub way_by : By → Bool → Way
way_by by folds = record { by = by; folds = folds }

-- the way of an ACL whose method isn't said: by the type of its values
abbrev pub way_of_kind : Kind → Result Way SpellFault
way_of_kind kind.Bool = Ok (way_by method.Bool false)
way_of_kind kind.Int = Ok (way_by method.Int false)
way_of_kind kind.Ip = Ok (way_by method.Ip false)
way_of_kind kind.Str = Ok (way_by method.Str false)
way_of_kind kind.Method = Ok (way_by method.Str true)
way_of_kind _ = Err bad_argument

abbrev pub way_of : Expr → Option By → Result Way SpellFault
way_of expr by =
    option_map_or (λ given. Ok (way_by given false)) by (way_of_kind (expr_kind expr))

-- whether case is ignored: where the method compares texts, and it is said or goes by itself
abbrev pub ignores_case : Way → Bool → Bool
ignores_case way ci = compares_texts way.by && (ci || way.folds)

-- ---- what is searched

-- the heads of files, in their order
abbrev pub file_heads : Way → List Searched → Known → Reading (List ℕ)
file_heads way [] known = reading [] known
file_heads way (file ∷ files) known =
    let first = with_head
    (record { table = file.table; by = way.by; ci = ignores_case way file.ci }) known in
    let others = file_heads way files first.known in
    reading (first.value ∷ others.value) others.known

-- the head of inline patterns, which are a reference
abbrev pub words_head : Way → Bool → Reading ℕ → Reading ℕ
words_head way ci place =
    with_head (record { table = place.value; by = way.by; ci = ignores_case way ci })
    (with_acl place.value place.known)

-- these heads, and one more
abbrev pub with_last_head : Reading (List ℕ) → Reading ℕ → Reading (List ℕ)
with_last_head heads last = reading (heads.value ++ last.value ∷ []) last.known

-- The heads of the files and, where there are inline patterns, one more for these; a number that is
-- given is theirs, so it doesn't stand without them. The fault of a word, if there is one, is told
-- after the reference is brought.
abbrev pub heads_of_keys : ℕ → Way → Flags → List (List ℕ) → Option SpellFault
    → Reading (List ℕ) → Result (Reading (List ℕ)) SpellFault
heads_of_keys line way flags [] fault files =
    option_map_or Err fault (if is_some flags.given then Err bad_argument else Ok files)
heads_of_keys line way flags (key ∷ keys) fault files = do
  place ← with_reference (reference_form None flags.given false line (key ∷ keys)) files.known
  option_map_or Err fault (Ok (with_last_head files (words_head way flags.ci place)))

-- ---- the whole

abbrev pub decl_reading : Expr → Way → Bool → List (List ℕ) → Reading (List ℕ) → Reading Decl
decl_reading expr way ci keys heads =
    reading (record { expr = expr; by = way.by; ci = ci; heads = heads.value; words = keys })
    heads.known

-- an ACL by a method that takes patterns
abbrev pub pattern_decl : ℕ → Expr → Way → AfterFlags → Known → Result (Reading Decl) SpellFault
pattern_decl line expr way after known =
    let keys = keys_of way.by after.words in
    heads_of_keys line way after.flags keys.keys keys.fault (file_heads way after.flags.files known)
    >>= (λ heads. Ok (decl_reading expr way (ignores_case way after.flags.ci) keys.keys heads))

-- nothing to compare with
abbrev pub has_no_patterns : AfterFlags → Bool
has_no_patterns after =
    length after.flags.files == 0 && length after.words == 0 && is_none after.flags.given

-- an ACL of its parts; by `found` or `bool`, it takes no patterns
abbrev pub decl_by : ℕ → Expr → AfterFlags → Known → Way → Result (Reading Decl) SpellFault
decl_by line expr after known way =
    if takes_patterns way.by then pattern_decl line expr way after known else
    (if has_no_patterns after then Ok (decl_reading expr way false [] (reading [] known))
    else Err bad_argument)

-- The ACL on this line of a criterion and the words after it, or the code of its first fault: the
-- words are judged from the left.
unfoldable pub decl_of : ℕ → List ℕ → List (List ℕ) → Known → Result (Reading Decl) SpellFault
decl_of line text words known = do
  criterion ← criterion_of line text known
  after ← flags_from line None words (no_flags criterion.value.by) criterion.known
  way ← way_of criterion.value.expr after.value.flags.by
  decl_by line criterion.value.expr after.value after.known way
