-- A text and words are read as the ACL that they spell, so they spell one at most; others are
-- refused by a code.
use Rattle.std.proofs.Common.{◌≡◌, ◌↔◌, ℕ, ◌||◌, Bool, true, false, cond, List, [], ◌∷◌, Option, None, Some, Ok, Err, refl, sym, ◌∙◌, subst}
use Rattle.std.specs.Prelude.{Result, ◌++◌, if◌then◌else◌, is_some}
use Rattle.std.specs.Option.{ok_or, option_map_or}
use Rattle.hx_text.specs.declared.By.{By}
use Rattle.hx_text.specs.declared.Kind.{Kind}
use Rattle.hx_text.specs.declared.Kind.TheVariants as kind
use Rattle.hx_text.specs.Network.{width_of}
use Rattle.hx_ast.specs.declared.Decl.{Decl}
use Rattle.hx_ast.specs.declared.Expr.{Expr}
use Rattle.hx_ast.specs.Acls.{IsDecl, compares_texts, takes_patterns}
use Rattle.hx_ast.specs.Convs.{IsExpr}
use Rattle.hx_ast.specs.Types.{expr_kind}
use Rattle.hx_calls.specs.declared.fault.SpellFault.{SpellFault}
use Rattle.hx_calls.specs.declared.fault.SpellFault.TheVariants as spell
use Rattle.hx_base.specs.Results.{◌>>=◌}
use Rattle.hx_calls.specs.Codes.{bad_argument, unsupported}
use Rattle.hx_calls.specs.Criteria.{Criterion, criterion_of}
use Rattle.hx_spell.specs.Declarations.{Way, decl_by, decl_of, decl_reading, file_heads, has_no_patterns, heads_of_keys, ignores_case, pattern_decl, way_of, way_of_kind, words_head}
use Rattle.hx_spell.specs.Flags.{AfterFlags, Flag, Flags, begins_as_flag, flag_argument, flag_table, flag_word, flags_end, flags_from, may_stand, method_table, no_flags}
use Rattle.hx_spell.specs.Flags.Flag.{IgnoreCase, TwoColumns, Numeric, File, Method, Number, End}
use Rattle.hx_calls.specs.Known.{Known, Reading, reading, reference_form, with_named_file, with_reference}
use Rattle.hx_spell.specs.Patterns.{Keys, Operator, compares_numbers, key_or_fault, keys_of, number_keys, operator_table}
use Rattle.hx_spell.specs.AclRelation.{SpellDecl}
use Rattle.hx_calls.specs.Tables.{entry_at}
use Rattle.hx_spell.proofs.AclSpellLemmas.{patterns_law, way_law}
use Rattle.hx_calls.proofs.CriterionFormLemmas.{criterion_is_expr, named_file_coded, reference_coded}
use Rattle.hx_calls.proofs.CriterionLemmas.{criterion_coded, criterion_law}
use Rattle.hx_spell.proofs.FlagLemmas.{after_flags, flags_law}
use Rattle.hx_calls.proofs.ResultLemmas.{Gives, IsCoded, IsLineCode, and_then_ok, both, found_coded, given_value, gives_coded, tested_coded, then_coded, then_gives, then_ok}

-- ---- the steps of reading an ACL

abbrev by_way : ℕ → Expr → Reading AfterFlags → Way → Result (Reading Decl) SpellFault
by_way line expr after way = decl_by line expr after.value after.known way

abbrev by_flags : ℕ → Expr → Reading AfterFlags → Result (Reading Decl) SpellFault
by_flags line expr after =
    way_of expr after.value.flags.by >>= (λ way. by_way line expr after way)

abbrev by_criterion :
    ℕ → List (List ℕ) → Reading Criterion → Result (Reading Decl) SpellFault
by_criterion line words criterion =
    flags_from line None words (no_flags criterion.value.by) criterion.known
    >>= (λ after. by_flags line criterion.value.expr after)

decl_steps : (line : ℕ) (text : List ℕ) (words : List (List ℕ)) (before : Known)
    → decl_of line text words before
    ≡ (criterion_of line text before >>= (λ criterion. by_criterion line words criterion))
unfolding decl_of
decl_steps line text words before = refl

-- ---- an ACL that is read is spelled

decl_spelled : (line : ℕ) (text : List ℕ) (words : List (List ℕ)) (before : Known)
    (read : Reading Decl) → decl_of line text words before ≡ Ok read
    → SpellDecl line before text words read
decl_spelled line text words before read is =
    let (criterion, written, rest) =
    and_then_ok (criterion_of line text before) (λ criterion. by_criterion line words criterion) read
    (sym (decl_steps line text words before) ∙ is) in
    let expr = criterion.value.expr in
    let start : Reading Flags =
    record { value = no_flags criterion.value.by; known = criterion.known } in
    let (after, flagged, others) =
    and_then_ok (flags_from line None words start.value start.known)
    (λ after. by_flags line expr after) read rest in
    let (way, searched, whole) =
    and_then_ok (way_of expr after.value.flags.by) (λ way. by_way line expr after way) read others in
    let s = (flags_law line words start after).0 flagged in
    let end = after_flags s.flags s.patterns in
    record {
      criterion = criterion;
      written = (criterion_law line text before criterion).0 written;
      flag_words = s.flag_words;
      others = s.others;
      patterns = s.patterns;
      words_are = s.words_are;
      flags = s.flags;
      spelled = s.spelled;
      end = s.end;
      way = way;
      searched = (way_law expr s.flags.value.by way).0
          (subst (λ (a : Reading AfterFlags). way_of expr a.value.flags.by ≡ Ok way) {y = end} s.is
          searched);
      with_patterns = (patterns_law line expr way s.flags s.patterns read).0
          (subst (λ (a : Reading AfterFlags). by_way line expr a way ≡ Ok read) {y = end} s.is whole);
    }

-- ---- an ACL that is spelled is read

decl_read : (line : ℕ) (text : List ℕ) (words : List (List ℕ)) (before : Known)
    (read : Reading Decl) → SpellDecl line before text words read
    → decl_of line text words before ≡ Ok read
decl_read line text words before read s =
    let expr = s.criterion.value.expr in
    let start : Reading Flags =
    record { value = no_flags s.criterion.value.by; known = s.criterion.known } in
    let after = after_flags s.flags s.patterns in
    let flagged : flags_from line None words start.value start.known ≡ Ok after =
    (flags_law line words start after).1 (record {
      flag_words = s.flag_words;
      others = s.others;
      patterns = s.patterns;
      words_are = s.words_are;
      flags = s.flags;
      spelled = s.spelled;
      end = s.end;
      is = refl;
    }) in
    decl_steps line text words before
    ∙ then_ok (criterion_of line text before) (λ criterion. by_criterion line words criterion)
    s.criterion read ((criterion_law line text before s.criterion).1 s.written)
    (then_ok (flags_from line None words start.value start.known) (λ after. by_flags line expr after)
    after read flagged
    (then_ok (way_of expr after.value.flags.by) (λ way. by_way line expr after way) s.way read
    ((way_law expr s.flags.value.by s.way).1 s.searched)
    ((patterns_law line expr s.way s.flags s.patterns read).1 s.with_patterns)))

-- A text and words are read as the ACL that they spell, and as no other.
pub decl_law : (line : ℕ) (text : List ℕ) (words : List (List ℕ)) (before : Known)
    (read : Reading Decl)
    → (decl_of line text words before ≡ Ok read) ↔ SpellDecl line before text words read
decl_law line text words before read =
    (decl_spelled line text words before read, decl_read line text words before read)

-- ---- a value, or a code

tested_gives : {A : Type 0} (P : A → Type 0) (b : Bool) (r s : Result A SpellFault)
    → (b ≡ true → Gives P r) → (b ≡ false → Gives P s) → Gives P (cond b r s)
tested_gives P true r s first second = first refl
tested_gives P false r s first second = second refl

-- ---- flags

argument_coded : (line : ℕ) (flag : Flag) (text : List ℕ) (flags : Flags) (known : Known)
    → IsCoded (flag_argument line flag text flags known)
argument_coded line IgnoreCase text flags known = tt
argument_coded line TwoColumns text flags known = tt
argument_coded line Numeric text flags known = tt
argument_coded line File text flags known =
    then_coded (with_named_file line text flags.two known) _
    (named_file_coded line text flags.two known) (λ file. tt)
argument_coded line Method text flags known =
    then_coded (ok_or (entry_at method_table text) unsupported) _
    (found_coded (entry_at method_table text) 9 tt) (λ by. tt)
argument_coded line Number text flags known =
    then_coded (ok_or (width_of 4294967295 text) bad_argument) _
    (found_coded (width_of 4294967295 text) 10 tt) (λ n. tt)
argument_coded line End text flags known = tt

word_coded : (further : Option Flag → Flags → Result (Reading AfterFlags) SpellFault)
    (entry : Option Flag) (word : List ℕ) (words : List (List ℕ)) (flags : Flags) (known : Known)
    → ((awaits : Option Flag) (changed : Flags) → IsCoded (further awaits changed))
    → IsCoded (flag_word further entry word words flags known)
word_coded further (Some IgnoreCase) word words flags known coded =
    coded None (record flags { ci = true })
word_coded further (Some TwoColumns) word words flags known coded =
    coded None (record flags { two = true })
word_coded further (Some Numeric) word words flags known coded = coded None flags
word_coded further (Some File) word words flags known coded =
    tested_coded (may_stand File flags) (further (Some File) flags) (Err bad_argument)
    (coded (Some File) flags) tt
word_coded further (Some Method) word words flags known coded =
    tested_coded (may_stand Method flags) (further (Some Method) flags) (Err bad_argument)
    (coded (Some Method) flags) tt
word_coded further (Some Number) word words flags known coded =
    tested_coded (may_stand Number flags) (further (Some Number) flags) (Err bad_argument)
    (coded (Some Number) flags) tt
word_coded further (Some End) word words flags known coded = tt
word_coded further None word words flags known coded =
    tested_coded (begins_as_flag word) (Err unsupported) (flags_end flags (word ∷ words) known) tt tt

flags_coded : (line : ℕ) (awaits : Option Flag) (words : List (List ℕ)) (flags : Flags)
    (known : Known) → IsCoded (flags_from line awaits words flags known)
flags_coded line None [] flags known = tt
flags_coded line (Some flag) [] flags known = tt
flags_coded line None (word ∷ words) flags known =
    word_coded (λ awaits after. flags_from line awaits words after known)
    (entry_at flag_table word) word words flags known
    (λ awaits changed. flags_coded line awaits words changed known)
flags_coded line (Some flag) (word ∷ words) flags known =
    then_coded (flag_argument line flag word flags known)
    (λ r. flags_from line None words r.value r.known) (argument_coded line flag word flags known)
    (λ r. flags_coded line None words r.value r.known)

kind_coded : (k : Kind) → IsCoded (way_of_kind k)
kind_coded kind.Bool = tt
kind_coded kind.Int = tt
kind_coded kind.Ip = tt
kind_coded kind.Str = tt
kind_coded kind.Method = tt
kind_coded kind.Bin = tt
kind_coded kind.Any = tt

way_coded : (expr : Expr) (by : Option By) → IsCoded (way_of expr by)
way_coded expr (Some by) = tt
way_coded expr None = kind_coded (expr_kind expr)

-- ---- patterns

-- the fault is a code of a line
abbrev IsCode : Option SpellFault → Type 0
IsCode None = Unit {0}
IsCode (Some (spell.Code n)) = IsLineCode n
IsCode (Some spell.NoMemory) = ⊥

key_coded : (key : Option (List ℕ)) (more : Keys) → IsCode more.fault
    → IsCode (key_or_fault key more).fault
key_coded (Some key) more coded = coded
key_coded None more coded = tt

next_coded : (next : Option Operator) (more : Operator → Keys) (keys : Keys)
    → ((o : Operator) → IsCode (more o).fault) → IsCode keys.fault
    → IsCode (option_map_or more next keys).fault
next_coded (Some next) more keys coded other = coded next
next_coded None more keys coded other = other

numbers_coded : (operator : Operator) (words : List (List ℕ))
    → IsCode (number_keys operator words).fault
numbers_coded operator [] = tt
numbers_coded operator (word ∷ words) =
    next_coded (entry_at operator_table word) (λ next. number_keys next words)
    (key_or_fault (operator word) (number_keys operator words))
    (λ next. numbers_coded next words)
    (key_coded (operator word) (number_keys operator words) (numbers_coded operator words))

keys_tested : (b : Bool) (first second : Keys) → IsCode first.fault → IsCode second.fault
    → IsCode (cond b first second).fault
keys_tested true first second one other = one
keys_tested false first second one other = other

keys_coded : (by : By) (words : List (List ℕ)) → IsCode (keys_of by words).fault
keys_coded by words =
    keys_tested (compares_numbers by) _ (record { keys = words; fault = None })
    (numbers_coded _ words) tt

fault_coded : {A : Type 0} (fault : Option SpellFault) (r : Result A SpellFault) → IsCode fault
    → IsCoded r → IsCoded (option_map_or Err fault r)
fault_coded None r coded other = other
fault_coded (Some (spell.Code n)) r coded other = coded
fault_coded (Some spell.NoMemory) r coded other = coded

heads_coded : (line : ℕ) (way : Way) (flags : Flags) (keys : List (List ℕ))
    (fault : Option SpellFault) (files : Reading (List ℕ)) → IsCode fault
    → IsCoded (heads_of_keys line way flags keys fault files)
heads_coded line way flags [] fault files coded =
    fault_coded fault (if is_some flags.given then Err bad_argument else Ok files) coded
    (tested_coded (is_some flags.given) (Err bad_argument) (Ok files) tt tt)
heads_coded line way flags (key ∷ keys) fault files coded =
    let form = reference_form None flags.given false line (key ∷ keys) in
    then_coded (with_reference form files.known)
    (λ place. let last = words_head way flags.ci place in
    option_map_or Err fault (Ok (reading (files.value ++ last.value ∷ []) last.known)))
    (reference_coded form files.known)
    (λ place. let last = words_head way flags.ci place in
    fault_coded fault (Ok (reading (files.value ++ last.value ∷ []) last.known)) coded tt)

-- ---- the ACL

abbrev ReadsDecl : Reading Decl → Type 0
ReadsDecl read = IsDecl read.value

pattern_such : (expr : Expr) (way : Way) (ci : Bool) (keys : List (List ℕ))
    (heads : Reading (List ℕ)) → IsExpr expr → takes_patterns way.by ≡ true
    → ReadsDecl (decl_reading expr way (ignores_case way ci) keys heads)
pattern_such expr way ci keys heads such takes = record {
  expr = such;
  case = λ is. (both (compares_texts way.by) (ci || way.folds) is).0;
  heads = λ is. absurd (let no : ⊥ = cc in no);
  words = λ is. absurd (let no : ⊥ = cc in no);
}

pattern_gives : (line : ℕ) (expr : Expr) (way : Way) (after : AfterFlags) (known : Known)
    → IsExpr expr → takes_patterns way.by ≡ true
    → Gives ReadsDecl (pattern_decl line expr way after known)
pattern_gives line expr way after known such takes =
    let keys = keys_of way.by after.words in
    let files = file_heads way after.flags.files known in
    then_gives (λ heads. Unit {0}) ReadsDecl
    (heads_of_keys line way after.flags keys.keys keys.fault files)
    (λ heads. Ok (decl_reading expr way (ignores_case way after.flags.ci) keys.keys heads))
    (heads_coded line way after.flags keys.keys keys.fault files (keys_coded way.by after.words))
    (λ heads any. pattern_such expr way after.flags.ci keys.keys heads such takes)

-- an ACL without patterns
abbrev pub bare_decl : Expr → Way → AfterFlags → Known → Result (Reading Decl) SpellFault
bare_decl expr way after known =
    if has_no_patterns after then Ok (decl_reading expr way false [] (reading [] known))
    else Err bad_argument

bare_gives : (expr : Expr) (way : Way) (after : AfterFlags) (known : Known) → IsExpr expr
    → Gives ReadsDecl (bare_decl expr way after known)
bare_gives expr way after known such =
    tested_gives ReadsDecl (has_no_patterns after)
    (Ok (decl_reading expr way false [] (record { value = []; known = known }))) (Err bad_argument)
    (λ none. record {
      expr = such;
      case = λ is. absurd (let no : ⊥ = cc in no);
      heads = λ is. refl;
      words = λ is. refl;
    })
    (λ some. tt)

by_gives : (line : ℕ) (expr : Expr) (after : AfterFlags) (known : Known) (way : Way)
    → IsExpr expr → Gives ReadsDecl (decl_by line expr after known way)
by_gives line expr after known way such =
    tested_gives ReadsDecl (takes_patterns way.by) (pattern_decl line expr way after known)
    (bare_decl expr way after known)
    (λ takes. pattern_gives line expr way after known such takes)
    (λ takes. bare_gives expr way after known such)

-- the expression of the criterion is one
abbrev HasExpr : Reading Criterion → Type 0
HasExpr criterion = IsExpr criterion.value.expr

criterion_by : (r : Result (Reading Criterion) SpellFault) → IsCoded r
    → ((c : Reading Criterion) → r ≡ Ok c → HasExpr c) → Gives HasExpr r
criterion_by (Ok criterion) coded such = such criterion refl
criterion_by (Err (spell.Code n)) coded such = coded
criterion_by (Err spell.NoMemory) coded such = coded

criterion_gives : (line : ℕ) (text : List ℕ) (before : Known)
    → Gives HasExpr (criterion_of line text before)
criterion_gives line text before =
    criterion_by (criterion_of line text before) (criterion_coded line text before)
    (λ c is. criterion_is_expr line text before c ((criterion_law line text before c).0 is))

decl_gives : (line : ℕ) (text : List ℕ) (words : List (List ℕ)) (before : Known)
    → Gives ReadsDecl (decl_of line text words before)
unfolding decl_of
decl_gives line text words before =
    then_gives HasExpr ReadsDecl (criterion_of line text before)
    (λ criterion. by_criterion line words criterion) (criterion_gives line text before)
    (λ criterion such. then_gives (λ after. Unit {0}) ReadsDecl
    (flags_from line None words (no_flags criterion.value.by) criterion.known)
    (λ after. by_flags line criterion.value.expr after)
    (flags_coded line None words (no_flags criterion.value.by) criterion.known)
    (λ after any. then_gives (λ way. Unit {0}) ReadsDecl
    (way_of criterion.value.expr after.value.flags.by)
    (λ way. by_way line criterion.value.expr after way)
    (way_coded criterion.value.expr after.value.flags.by)
    (λ way any. by_gives line criterion.value.expr after.value after.known way such)))

-- Words that are refused are refused by a code of a line.
pub decl_coded : (line : ℕ) (text : List ℕ) (words : List (List ℕ)) (before : Known)
    → IsCoded (decl_of line text words before)
decl_coded line text words before =
    gives_coded ReadsDecl (decl_of line text words before) (decl_gives line text words before)

-- What is read is an ACL.
pub decl_is_decl : (line : ℕ) (text : List ℕ) (words : List (List ℕ)) (before : Known)
    (read : Reading Decl) → decl_of line text words before ≡ Ok read → IsDecl read.value
decl_is_decl line text words before read is =
    given_value ReadsDecl (decl_of line text words before) read
    (decl_gives line text words before) is
