-- After an ACL what is known is sound, where it was, and the ACL names heads that are known.
use Rattle.std.proofs.Common.{◌≡◌, ℕ, Bool, true, false, cond, List, [], ◌∷◌, ◌-◌, ◌^◌, ◌&&◌, Option, None, Some, Ok, Err, arith, refl, sym, subst}
use Rattle.std.specs.Prelude.{Result, is_some, ◌||◌, ◌++◌}
use Rattle.std.specs.List.{All}
use Rattle.std.specs.Option.{ok_or, option_map_or}
use Rattle.std.proofs.lemmas.List.Elements.{All-cons, All-head, All-nil, All-push, All-tail, All-weaker}
use Rattle.hx_text.specs.Network.{width_of}
use Rattle.hx_text.specs.declared.By.{By}
use Rattle.hx_ast.specs.declared.Decl.{Decl}
use Rattle.hx_ast.specs.declared.Expr.{Expr}
use Rattle.hx_ast.specs.Acls.{IsDecl, compares_texts, takes_patterns}
use Rattle.hx_calls.specs.declared.fault.SpellFault.{SpellFault}
use Rattle.hx_calls.specs.declared.table_specs.HeadSpec.{HeadSpec}
use Rattle.hx_calls.specs.Codes.{bad_argument, unsupported}
use Rattle.hx_spell.specs.Declarations.{Way, decl_of, decl_reading, file_heads, has_no_patterns, heads_of_keys, ignores_case, pattern_decl, words_head}
use Rattle.hx_spell.specs.Flags.{AfterFlags, Flag, Flags, Searched, flag_argument, method_table}
use Rattle.hx_spell.specs.Flags.Flag.{IgnoreCase, TwoColumns, Numeric, File, Method, Number}
use Rattle.hx_calls.specs.ExpressionHeads.{IsHeadBy, NamesHead}
use Rattle.hx_spell.specs.Heads.{DeclNames}
use Rattle.hx_calls.specs.Known.{Known, Reading, reading, reference_form, with_acl, with_head, with_named_file, with_reference}
use Rattle.hx_spell.specs.Patterns.{keys_of}
use Rattle.hx_spell.specs.AclRelation.{SpellDecl, SpellFlags, flag_alone}
use Rattle.hx_spell.specs.AclRelation.SpellFlags.{NoFlags, FlagAlone, FlagWithArgument}
use Rattle.hx_calls.specs.Sound.{IsReference}
use Rattle.hx_calls.specs.Tables.{entry_at}
use Rattle.hx_spell.proofs.AclSpellLemmas.{patterns_law}
use Rattle.hx_spell.proofs.FlagLemmas.{writes_argument}
use Rattle.hx_spell.proofs.DeclarationLemmas.{bare_decl, decl_is_decl, decl_law}
use Rattle.hx_calls.proofs.ExpressionHeadLemmas.{later_by, names_later}
use Rattle.hx_calls.proofs.ResultLemmas.{and_then_ok, both}
use Rattle.hx_calls.proofs.SoundExprLemmas.{criterion_grown}
use Rattle.hx_calls.proofs.SoundLemmas.{Brings, Grown, IsKnownHead, ReadsHead, ReadsReference, acl_grown, brings_by, brought, grown_refl, grown_trans, head_grown, named_file_brings, reference_brings}

-- ---- flags

-- files that are references that are known
abbrev FilesThere : Known → List Searched → Type 0
FilesThere known files = All (λ (file : Searched). IsReference known file.table) files

still_there : (a b : Known) → Grown a b → (files : List Searched) → FilesThere a files
    → FilesThere b files
still_there a b grown =
    All-weaker (λ (file : Searched). IsReference a file.table)
    (λ (file : Searched). IsReference b file.table)
    (λ file there. omega (arith, there, grown.references))

-- the files that flags name are references that are known
abbrev pub HaveFiles : Known → Flags → Type 0
HaveFiles known flags = FilesThere known flags.files

pub files_more : (a b : Known) (flags : Flags) → Grown a b → HaveFiles a flags → HaveFiles b flags
files_more a b flags grown = still_there a b grown flags.files

abbrev FlagsAfter : Known → Reading Flags → Type 0
FlagsAfter before read = Grown before read.known × HaveFiles read.known read.value

abbrev with_searched : Flags → Reading ℕ → Reading Flags
with_searched flags file =
    let searched : Searched = record { table = file.value; ci = flags.ci } in
    let more = record flags { files = flags.files ++ searched ∷ [] } in
    reading more (with_acl file.value file.known)

searched_after : (flags : Flags) (before : Known) (file : Reading ℕ) → HaveFiles before flags
    → ReadsReference before file → FlagsAfter before (with_searched flags file)
searched_after flags before file have (grown, there) =
    let after = with_acl file.value file.known in
    let marked : Grown file.known after = acl_grown file.value file.known in
    let whole : Grown before after = grown_trans before file.known after grown marked in
    let still : IsReference after file.value = omega (arith, there, marked.references) in
    let last : Searched = record { table = file.value; ci = flags.ci } in (
      whole,
      All-push (λ (f : Searched). IsReference after f.table) flags.files last
          (files_more before after flags whole have) still,
    )

same_files : (known : Known) (flags changed : Flags) → changed.files ≡ flags.files
    → HaveFiles known flags → HaveFiles known changed
same_files known flags changed same have =
    subst (λ (files : List Searched). All (λ (f : Searched). IsReference known f.table) files)
    (sym same) have

argument_after : (line : ℕ) (flag : Flag) (text : List ℕ) (flags : Flags) (known : Known)
    (read : Reading Flags) → flag_argument line flag text flags known ≡ Ok read
    → HaveFiles known flags → FlagsAfter known read
argument_after line File name flags known read is have =
    let place = with_named_file line name flags.two known in
    let (file, there, after) = and_then_ok place (λ f. Ok (with_searched flags f)) read is in
    let same : with_searched flags file ≡ read = cc in
    subst (λ (r : Reading Flags). FlagsAfter known r) same
    (searched_after flags known file have
    (brought IsReference known place file (named_file_brings line name flags.two known) there))
argument_after line Method name flags known read is have =
    let (by, named, after) =
    and_then_ok (ok_or (entry_at method_table name) unsupported) _ read is in
    let same : record { value = record flags { by = Some by }; known = known } ≡ read = cc in
    subst (λ (r : Reading Flags). FlagsAfter known r) same (grown_refl known, have)
argument_after line Number text flags known read is have =
    let (n, given, after) =
    and_then_ok (ok_or (width_of (2 ^ 32 - 1) text) bad_argument) _ read is in
    let same : record { value = record flags { given = Some n }; known = known } ≡ read = cc in
    subst (λ (r : Reading Flags). FlagsAfter known r) same (grown_refl known, have)
argument_after line _ text flags known read is have =
    let same : record { value = flags; known = known } ≡ read = cc in
    subst (λ (r : Reading Flags). FlagsAfter known r) same (grown_refl known, have)

alone_files : (flag : Flag) (flags changed : Flags) → flag_alone flag flags ≡ Some changed
    → changed.files ≡ flags.files
alone_files IgnoreCase flags changed is =
    let same : record flags { ci = true } ≡ changed = cc in
    subst (λ (f : Flags). f.files ≡ flags.files) same refl
alone_files TwoColumns flags changed is =
    let same : record flags { two = true } ≡ changed = cc in
    subst (λ (f : Flags). f.files ≡ flags.files) same refl
alone_files Numeric flags changed is =
    let same : flags ≡ changed = cc in subst (λ (f : Flags). f.files ≡ flags.files) same refl
alone_files _ flags changed is = absurd (let no : ⊥ = cc in no)

flags_after : (line : ℕ) (before : Reading Flags) (words : List (List ℕ)) (after : Reading Flags)
    → SpellFlags line before words after → HaveFiles before.known before.value
    → FlagsAfter before.known after
flags_after line _ _ _ (NoFlags flags) have = (grown_refl flags.known, have)
flags_after line _ _ _ (FlagAlone flag before after changed words alone others) have =
    flags_after line (record { value = changed; known = before.known }) words after others
    (same_files before.known before.value changed (alone_files flag before.value changed alone) have)
flags_after line _ _ _
    (FlagWithArgument flag text before changed after words takes stands read others) have =
    let (grown, there) =
    argument_after line flag text before.value before.known changed
    (writes_argument line flag text before.value before.known changed read) have in
    let (later, all) = flags_after line changed words after others there in
    (grown_trans before.known changed.known after.known grown later, all)

-- ---- heads

-- the way of an ACL that takes patterns
abbrev IsWay : Way → Type 0
IsWay way = takes_patterns way.by ≡ true

compared : (a b : Bool) → (a && b) ≡ true → a ≡ true
compared a b is = (both a b is).0

head_of : (known : Known) (way : Way) (ci : Bool) (table : ℕ) → IsWay way
    → IsReference known table
    → IsKnownHead known (record { table = table; by = way.by; ci = ignores_case way ci })
head_of known way ci table such there = record {
  table = there;
  patterns = such;
  case = compared (compares_texts way.by) (ci || way.folds);
}

abbrev HeadsAfter : By → Known → Reading (List ℕ) → Type 0
HeadsAfter by before read =
    Grown before read.known × All (IsHeadBy read.known.heads by) read.value

files_after : (way : Way) → IsWay way → (files : List Searched) (known : Known)
    → FilesThere known files → HeadsAfter way.by known (file_heads way files known)
files_after way such [] known have = (grown_refl known, All-nil (IsHeadBy known.heads way.by))
files_after way such (file ∷ files) known have =
    let head : HeadSpec =
    record { table = file.table; by = way.by; ci = ignores_case way file.ci } in
    let first = with_head head known in
    let others = file_heads way files first.known in
    let there = All-head (λ (f : Searched). IsReference known f.table) file files have in
    let rest = All-tail (λ (f : Searched). IsReference known f.table) file files have in
    let (grown, names) =
    head_grown head known (head_of known way file.ci file.table such there) in
    let (later, all) =
    files_after way such files first.known (still_there known first.known grown files rest) in (
      grown_trans known first.known others.known grown later,
      All-cons (IsHeadBy others.known.heads way.by) first.value others.value
          (later_by first.known.heads others.known.heads later.heads way.by first.value names) all,
    )

words_after : (way : Way) → IsWay way → (ci : Bool) (before : Known) (place : Reading ℕ)
    → ReadsReference before place → ReadsHead way.by before (words_head way ci place)
words_after way such ci before place (grown, there) =
    let marked = with_acl place.value place.known in
    let acl : Grown place.known marked = acl_grown place.value place.known in
    let head : HeadSpec =
    record { table = place.value; by = way.by; ci = ignores_case way ci } in
    let still : IsReference marked place.value = omega (arith, there, acl.references) in
    let (more, names) = head_grown head marked (head_of marked way ci place.value such still) in (
      grown_trans before place.known (words_head way ci place).known grown
          (grown_trans place.known marked (words_head way ci place).known acl more),
      names,
    )

unfaulted : {A : Type 0} (fault : Option SpellFault) (r : Result A SpellFault) (y : A)
    → option_map_or Err fault r ≡ Ok y → r ≡ Ok y
unfaulted None r y is = is
unfaulted (Some fault) r y is = absurd (let no : ⊥ = cc in no)

abbrev Answer : Type 0
Answer = Result (Reading (List ℕ)) SpellFault

same_value : (x y : Reading (List ℕ)) (r s : Answer) → r ≡ Ok x → s ≡ Ok y → r ≡ s → x ≡ y
same_value x y r s first second is = cc

unless_given : (b : Bool) (x y : Reading (List ℕ)) → cond b (Err bad_argument) (Ok x) ≡ Ok y
    → x ≡ y
unless_given true x y is = absurd (let no : ⊥ = cc in no)
unless_given false x y is = cc

keys_after : (line : ℕ) (way : Way) → IsWay way → (flags : Flags) (keys : List (List ℕ))
    (fault : Option SpellFault) (before : Known) (files read : Reading (List ℕ))
    → HeadsAfter way.by before files → heads_of_keys line way flags keys fault files ≡ Ok read
    → HeadsAfter way.by before read
keys_after line way such flags [] fault before files read all is =
    subst (λ (r : Reading (List ℕ)). HeadsAfter way.by before r)
    (unless_given (is_some flags.given) files read (unfaulted fault _ read is)) all
keys_after line way such flags (key ∷ keys) fault before files read (grown, all) is =
    let form = reference_form None flags.given false line (key ∷ keys) in
    let (place, there, after) =
    and_then_ok (with_reference form files.known) _ read is in
    let last = words_head way flags.ci place in
    let (more, names) =
    words_after way such flags.ci files.known place
    (brought IsReference files.known (with_reference form files.known) place
    (reference_brings form files.known tt) there) in
    let still =
    All-weaker (IsHeadBy files.known.heads way.by) (IsHeadBy last.known.heads way.by)
    (later_by files.known.heads last.known.heads more.heads way.by) files.value all in
    subst (λ (r : Reading (List ℕ)). HeadsAfter way.by before r)
    (same_value (reading (files.value ++ last.value ∷ []) last.known) read _ (Ok read) refl refl
    (unfaulted fault (Ok (reading (files.value ++ last.value ∷ []) last.known)) read after)) (
      grown_trans before files.known last.known grown more,
      All-push (IsHeadBy last.known.heads way.by) files.value last.value still names,
    )

-- ---- the whole

-- an ACL is read, and names heads that are known then
abbrev pub DeclAfter : Known → Reading Decl → Type 0
DeclAfter before read = Grown before read.known × DeclNames read.known.heads read.value

abbrev NamesHeads : Known → Expr → Type 0
NamesHeads known expr = All (NamesHead known.heads) expr.convs

convs_later : (a b : Known) (expr : Expr) → Grown a b → NamesHeads a expr → NamesHeads b expr
convs_later a b expr grown =
    All-weaker (NamesHead a.heads) (NamesHead b.heads) (names_later a.heads b.heads grown.heads)
    expr.convs

reading_after : (expr : Expr) (way : Way) (ci : Bool) (keys : List (List ℕ)) (before : Known)
    (heads : Reading (List ℕ)) → NamesHeads before expr → HeadsAfter way.by before heads
    → DeclAfter before (decl_reading expr way ci keys heads)
reading_after expr way ci keys before heads names (grown, all) =
    (grown, record { searched = all; maps = convs_later before heads.known expr grown names })

pattern_after : (line : ℕ) (expr : Expr) (way : Way) → IsWay way → (after : AfterFlags)
    (known : Known) (read : Reading Decl) → HaveFiles known after.flags → NamesHeads known expr
    → pattern_decl line expr way after known ≡ Ok read → DeclAfter known read
pattern_after line expr way such after known read have names is =
    let keys = keys_of way.by after.words in
    let files = file_heads way after.flags.files known in
    let (heads, found, made) =
    and_then_ok (heads_of_keys line way after.flags keys.keys keys.fault files) _ read is in
    let same : decl_reading expr way (ignores_case way after.flags.ci) keys.keys heads ≡ read =
    cc in
    subst (λ (r : Reading Decl). DeclAfter known r) same
    (reading_after expr way (ignores_case way after.flags.ci) keys.keys known heads names
    (keys_after line way such after.flags keys.keys keys.fault known files heads
    (files_after way such after.flags.files known have) found))

passed : {A : Type 0} (b : Bool) (x : A) (fault : SpellFault) (y : A)
    → cond b (Ok x) (Err fault) ≡ Ok y → x ≡ y
passed true x fault y is = cc
passed false x fault y is = absurd (let no : ⊥ = cc in no)

bare_after : (expr : Expr) (way : Way) (after : AfterFlags) (known : Known) (read : Reading Decl)
    → NamesHeads known expr → bare_decl expr way after known ≡ Ok read → DeclAfter known read
bare_after expr way after known read names is =
    let none : Reading (List ℕ) = record { value = []; known = known } in
    subst (λ (r : Reading Decl). DeclAfter known r)
    (passed (has_no_patterns after) (decl_reading expr way false [] none) bad_argument read is)
    (reading_after expr way false [] known none names
    (grown_refl known, All-nil (IsHeadBy known.heads way.by)))

by_after : (b : Bool) (line : ℕ) (expr : Expr) (after : AfterFlags) (known : Known) (way : Way)
    (read : Reading Decl) → takes_patterns way.by ≡ b → HaveFiles known after.flags
    → NamesHeads known expr
    → cond b (pattern_decl line expr way after known) (bare_decl expr way after known) ≡ Ok read
    → DeclAfter known read
by_after true line expr after known way read takes have names is =
    pattern_after line expr way takes after known read have names is
by_after false line expr after known way read takes have names is =
    bare_after expr way after known read names is

-- after an ACL what is known is sound, where it was, and the ACL names known heads
pub decl_grown : (line : ℕ) (before : Known) (text : List ℕ) (words : List (List ℕ))
    (read : Reading Decl) → SpellDecl line before text words read → DeclAfter before read
decl_grown line before text words read w =
    let criterion = w.criterion in
    let expr = criterion.value.expr in
    let (grown, names) = criterion_grown line text before criterion w.written in
    let (flagged, have) =
    flags_after line _ w.flag_words w.flags w.spelled
    (All-nil (λ (file : Searched). IsReference criterion.known file.table)) in
    let after : AfterFlags = record { flags = w.flags.value; words = w.patterns } in
    let (made, heads) =
    by_after (takes_patterns w.way.by) line expr after w.flags.known w.way read refl have
    (convs_later criterion.known w.flags.known expr flagged names)
    ((patterns_law line expr w.way w.flags w.patterns read).1 w.with_patterns) in (
      grown_trans before criterion.known read.known grown
          (grown_trans criterion.known w.flags.known read.known flagged made),
      heads,
    )

-- ---- an ACL that is read

-- an ACL of the syntax, which names heads that are known
abbrev pub IsKnownDecl : Known → Decl → Type 0
IsKnownDecl known decl = IsDecl decl × DeclNames known.heads decl

pub decl_brings : (line : ℕ) (text : List ℕ) (words : List (List ℕ)) (known : Known)
    → Brings IsKnownDecl known (decl_of line text words known)
decl_brings line text words known =
    brings_by IsKnownDecl known (decl_of line text words known)
    (λ read is.
    let (grown, names) =
    decl_grown line known text words read ((decl_law line text words known read).0 is) in
    (grown, (decl_is_decl line text words known read is, names)))
